-- The statements of Cases.antt, by computation. Assumes nothing.
use mathlib.Core.Path.{◌≡◌, refl, subst}
use mathlib.Core.List.Memᴰ.{head as here}
use mathlib.Core.List.Memᴰ.{tail as there}
use mathlib.Core.List.{List, [], ◌∷◌, map, flat_map, head_d}
use Rattle.lists.specs.Lists.{◌among◌, every, sum_below, count_below, greatest, tabulate}
use Rattle.lists.proofs.Members.{no_member}
use Rattle.study.specs.Problem.{centres_among, centres, centre_of, blocks_at, choices, block, labels, all_sufficient, assignments, assignable, candidates}
use Rattle.study.specs.Problem.{radius, blocking, diameter, greatest_diameter, feasible}
use Rattle.study.specs.Study.{Study, tide, distance, meets, sufficient, problem, valid_minima, Valid}
use Rattle.study.specs.Refusals.{Verdict, accepted, first_of}
use Rattle.study.specs.Calls.{opened, opening, triangle, violations, duplicated, enter_reasons, entered, entering}
use Rattle.study.specs.Calls.{block_reasons, figures, block_record, judge_reasons, approved, judgement}
use Rattle.file_format.specs.Bits.{binary, all_bits, pack, packed}
use Rattle.file_format.specs.File.{tide_fields, fields, file_with, file_of, bit_length, byte_length, counts_under, counts_at}
use Rattle.file_format.specs.File.{tide_at, minima_at, decoded, head_reasons, tide_reasons, read_reasons}
use Rattle.file_format.proofs.AcceptedLaws.{accepted_valid}
use Rattle.file_format.specs.Cases.{tide_on, line, plain, fresh, reply, case1, case2, case3, case4, case5, case7, one_tide, cases, WorkedCases}
use Rattle.file_format.specs.Cases.{nearest, NearestFirst, old, OldRead, stored, ByFile, study_in, studies, ValidStudies, order, ReadInOrder}

pub worked_cases : WorkedCases
unfolding cases case1 case2 case3 case4 case5 case7 one_tide plain line tide_on reply first_of
    block_reasons figures block_record enter_reasons entering entered judge_reasons judgement approved opening opened triangle violations duplicated
    centres_among centres centre_of blocks_at choices block labels all_sufficient assignments assignable candidates radius blocking
    diameter greatest_diameter feasible tide distance meets sufficient problem valid_minima
    read_reasons head_reasons tide_reasons decoded minima_at tide_at byte_length bit_length counts_under counts_at
    file_of file_with fields tide_fields packed pack all_bits binary
    every sum_below count_below greatest tabulate flat_map head_d
worked_cases = refl

pub nearest_first : NearestFirst
unfolding nearest plain line tide_on reply first_of block_reasons figures block_record
    centres_among centres centre_of blocks_at choices block labels all_sufficient assignments assignable candidates radius blocking
    diameter greatest_diameter tide distance meets sufficient problem every sum_below count_below greatest tabulate flat_map head_d
nearest_first = refl

-- Read accepts the file of each study and gives the study back
abbrev answer : Study → Verdict
answer S = first_of (read_reasons (file_of (fresh S)))

abbrev back : Study → Study
back S = (decoded (file_of (fresh S))).study

all_valid : (Ss : List Study) → map answer Ss ≡ map (λ (S : Study). accepted) Ss → map back Ss ≡ Ss → (S : Study) → S among Ss → Valid S
all_valid [] e q S m = no_member m
all_valid (R ∷ Rs) e q S (here r) = subst Valid (cc) (accepted_valid (file_of (fresh R)) (cc)).study
all_valid (R ∷ Rs) e q S (there m) = all_valid Rs (cc) (cc) S m

accepts : map answer studies ≡ map (λ (S : Study). accepted) studies
unfolding studies study_in cases nearest case1 case2 case3 case4 case5 case7 one_tide plain line tide_on opening opened first_of
    read_reasons head_reasons tide_reasons decoded minima_at tide_at byte_length bit_length counts_under counts_at
    file_of file_with fields tide_fields packed pack all_bits binary
    triangle violations distance tide valid_minima every sum_below tabulate flat_map
accepts = refl

gives_back : map back studies ≡ studies
unfolding studies study_in cases nearest case1 case2 case3 case4 case5 case7 one_tide plain line tide_on opening opened
    decoded minima_at tide_at bit_length counts_under counts_at file_of file_with fields tide_fields packed pack all_bits binary tabulate flat_map
gives_back = refl

pub valid_studies : ValidStudies
valid_studies = all_valid studies accepts gives_back

pub in_order : ReadInOrder
unfolding order reply first_of
    read_reasons head_reasons tide_reasons decoded minima_at tide_at counts_at counts_under byte_length bit_length binary
    triangle violations distance tide valid_minima every sum_below tabulate flat_map
in_order = refl

pub old_read : OldRead
unfolding old one_tide plain line tide_on opening opened reply first_of
    read_reasons head_reasons tide_reasons decoded minima_at tide_at counts_at counts_under byte_length bit_length binary
    triangle violations distance tide valid_minima every sum_below tabulate flat_map
old_read = refl

pub by_file : ByFile
unfolding stored case3 case4 case5 one_tide plain line tide_on reply first_of enter_reasons entering entered duplicated
    read_reasons head_reasons tide_reasons decoded minima_at tide_at byte_length bit_length counts_under counts_at
    file_of file_with fields tide_fields packed pack all_bits binary
    triangle violations distance tide valid_minima every sum_below tabulate flat_map
by_file = refl
