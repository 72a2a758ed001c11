-- The record of Theorems.antt, proved. Assumes nothing.
use Rattle.c_guarantee.specs.Theorems.{ForC}
use Rattle.c_api.proofs.CallLaws.{too_short}
use Rattle.c_guarantee.proofs.RunLaws.{as_run, as_call, c_demand3}

pub for_c : ForC
for_c = record { as_run = as_run; as_call = as_call; too_short = too_short; demand3 = c_demand3 }
