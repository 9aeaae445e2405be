-- `consensus::writing::write_both` meets its contract. Assumes nothing.
use Prim.Native.Nat.{ℕ}
use native.Mathlib.Omega.{arith}
use lib.ListN.{replicate, length-replicate}
use Rattle.std.proofs.lemmas.Result.{err_from_is_err_and}
use Rattle.answers.specs.AnswerLaws.{both-as}
use Rattle.consensus.specs.BothLaws.{both-none, both_some}
use Rattle.consensus.proofs.writing.write_both.Goals as goal

pub give_both-requires : goal.give_both-requires
give_both-requires c =
    let w = c.requires in
    let f = c.in_ok-n.ensures in record { s_value = w; n_in_bounds = (both_some _ w (replicate 4352 0) _ (omega (arith, length-replicate {A = ℕ} 4352 0)) 0 0 _ f).0 }

pub returns-in_err-n : goal.returns-in_err-n
returns-in_err-n c =
    let p = err_from_is_err_and c.from_residual.result c.from_residual.ensures.1 in
    rw (p.1, p.2) (both-none _ c.requires (replicate 4352 0) _ (omega (arith, length-replicate {A = ℕ} 4352 0)) c.args.strict.now c.args.majority.now _ c.in_err-n.ensures)

pub returns : goal.returns
returns c =
    let a = c.args in
    let e = (both_some _ c.requires (replicate 4352 0) _ (omega (arith, length-replicate {A = ℕ} 4352 0)) _ _ _ c.in_ok-n.ensures).1 in
    both-as _ a.strict.now a.majority.now _ e _ _ _ c.give_both.ensures
