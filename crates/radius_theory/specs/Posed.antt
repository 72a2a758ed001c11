-- The problem that a study poses. Assumes nothing.
use Rattle.study.specs.Problem.{Problem}
use Rattle.promise.specs.Met.{met}
use Rattle.radius_theory.specs.Arrays.{array_problem}
use Rattle.radius_theory.specs.declared.input.Study.{Study}

-- the problem that distances, settings and minima of these tides pose
abbrev pub posed : Study → Problem
posed S = array_problem S.distances.now S.tides.n (met S.tides)
