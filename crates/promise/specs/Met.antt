-- The test of sets of tides that the tides of a search bring with them. Assumes nothing.
use Rattle.promise.specs.declared.tides.Tides.{Tides}
use Rattle.promise.specs.Promise.{Test, meeting}

-- the sets of these tides that meet their minima
abbrev pub met : Tides → Test
met t = meeting t.minima t.n t.settings.now
