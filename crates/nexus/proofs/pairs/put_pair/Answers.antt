-- `nexus::pairs::put_pair` meets its contract. Assumes nothing.
use native.Mathlib.Omega.{arith}
use lib.ListN.{length-set}
use Rattle.nexus.proofs.pairs.put_pair.Goals as goal

pub bounds-places-n-2 : goal.bounds-places-n-2
bounds-places-n-2 c = simp length-set (omega arith)

pub bounds-places-n-3 : goal.bounds-places-n-3
bounds-places-n-3 c = simp length-set (omega arith)

pub bounds-places-n-4 : goal.bounds-places-n-4
bounds-places-n-4 c = simp length-set (omega arith)
