use Rattle.std.proofs.Common.{◌≡◌, ℕ, Bool, true, false, nat_eq, List, take, ap, sym, ◌∙◌, eqb-true, arith}
use Rattle.std.proofs.lemmas.Bool.{eqb-false}
use Rattle.trees.specs.Mask.{without, lowest}
use Rattle.trees.specs.Written.{widest}
use Rattle.head.specs.Head.{names_at}
use Rattle.head.specs.HeadLaws.{names-at}
use Rattle.writer.specs.Branch.{Ready, Step}
use Rattle.writer.specs.BranchLaws.{child-ok, rest-ready}
use Rattle.writer.specs.BranchTextLaws.{text-length}
use Rattle.writer.specs.StepLaws.{step_less, step_fewer, step_room, step-none, step-last, step-more, child-leaf-put, child-inner-put, child-room}
use Rattle.writer.proofs.+write_branches_write_child.Goals as goal

-- what the test for an empty mask tells
none_in : {b : Bool} {m : ℕ} → b ≡ nat_eq m 0 → b ≡ true → m ≡ 0
none_in e t = eqb-true _ _ (sym e ∙ t)

some_in : {b : Bool} {m : ℕ} → b ≡ nat_eq m 0 → b ≡ false → m ≡ 0 → ⊥
some_in e t = eqb-false _ _ (sym e ∙ t)

-- what is known once the widest split is found
known : {n : ℕ} {ns : List (List ℕ)} {s : List ℕ} {m r i x : ℕ} → Ready n ns s m r → (r ≡ 0 → ⊥) → i ≡ lowest r
    → x ≡ widest m i s → Step n ns s m r i x
known ready some smallest wide =
    record { ready = ready; some = some; smallest = smallest; wide = wide }

pub write_branches-returns-then-is_empty : goal.write_branches-returns-then-is_empty
write_branches-returns-then-is_empty t c = step-none _ _ _ _ _ _ (none_in c.is_empty.ensures c.if-is_empty.true)

pub write_branches-write_child-e-requires : goal.write_branches-write_child-e-requires
write_branches-write_child-e-requires t c =
    let p = c.requires in
    let k = known p.ready (some_in c.is_empty.ensures c.if-is_empty.false) c.lowest_taxon-i.ensures.result_value c.widest_in-x.ensures in
    (omega (arith, c.decreases, step_less k), (p.head_bytes_in_bounds, (p.k_in_bounds, (c.lowest_taxon-i.ensures.result_bound, (child-ok k, omega (arith, p.r_bound, text-length k))))))

pub write_branches-returns-then-is_empty-2 : goal.write_branches-returns-then-is_empty-2
write_branches-returns-then-is_empty-2 t c =
    let k = known c.requires.ready (some_in c.is_empty.ensures c.if-is_empty.false) c.lowest_taxon-i.ensures.result_value c.widest_in-x.ensures in
    let q = c.taxa_without-rest.ensures ∙ ap (without _) c.child_mask.ensures in
    step-last k q c.write_child-e.ensures (none_in c.is_empty-2.ensures c.if-is_empty-2.true)

pub write_branches-overflow_add-e : goal.write_branches-overflow_add-e
write_branches-overflow_add-e t c =
    let k = known c.requires.ready (some_in c.is_empty.ensures c.if-is_empty.false) c.lowest_taxon-i.ensures.result_value c.widest_in-x.ensures in
    let q = c.taxa_without-rest.ensures ∙ ap (without _) c.child_mask.ensures in
    let l = step_room k q (some_in c.is_empty-2.ensures c.if-is_empty-2.false) in
    omega (arith, c.requires.r_bound, c.write_child-e.ensures.ends)

pub write_branches-write_branches-requires : goal.write_branches-write_branches-requires
write_branches-write_branches-requires t c =
    let p = c.requires in
    let k = known p.ready (some_in c.is_empty.ensures c.if-is_empty.false) c.lowest_taxon-i.ensures.result_value c.widest_in-x.ensures in
    let q = c.taxa_without-rest.ensures ∙ ap (without _) c.child_mask.ensures in
    let l = step_room k q (some_in c.is_empty-2.ensures c.if-is_empty-2.false) in
    let e = c.write_child-e.ensures.ends in
    (omega (arith, c.decreases, step_fewer k q), (p.head_bytes_in_bounds, (p.k_in_bounds, (rest-ready k q, omega (arith, p.r_bound)))))

pub write_branches-returns : goal.write_branches-returns
write_branches-returns t c =
    let k = known c.requires.ready (some_in c.is_empty.ensures c.if-is_empty.false) c.lowest_taxon-i.ensures.result_value c.widest_in-x.ensures in
    let q = c.taxa_without-rest.ensures ∙ ap (without _) c.child_mask.ensures in
    step-more k q c.write_child-e.ensures (some_in c.is_empty-2.ensures c.if-is_empty-2.false) c.put_byte.ensures c.write_branches.ensures

pub write_child-returns-then-is_empty : goal.write_child-returns-then-is_empty
write_child-returns-then-is_empty t c = child-leaf-put _ _ _ _ (none_in c.is_empty.ensures c.if-is_empty.true) (names-at _ _ c.requires.child.named) c.write_name.ensures

pub write_child-write_branches-e-requires : goal.write_child-write_branches-e-requires
write_child-write_branches-e-requires t c =
    let p = c.requires in
    let z = some_in c.is_empty.ensures c.if-is_empty.false in
    let l = child-room (names_at c.args.head.now) (take c.args.k c.args.list.now) c.args.i.0 c.args.x z in
    (omega (arith, c.decreases), (p.head_bytes_in_bounds, (p.k_in_bounds, (p.child.ready z, omega (arith, p.x_bound)))))

pub write_child-overflow_add-result : goal.write_child-overflow_add-result
write_child-overflow_add-result t c =
    let l = child-room (names_at c.args.head.now) (take c.args.k c.args.list.now) c.args.i.0 c.args.x (some_in c.is_empty.ensures c.if-is_empty.false) in
    omega (arith, c.requires.x_bound, c.write_branches-e.ensures.ends)

pub write_child-returns : goal.write_child-returns
write_child-returns t c =
    child-inner-put _ _ _ _ (some_in c.is_empty.ensures c.if-is_empty.false) c.put_byte.ensures c.write_branches-e.ensures c.put_byte-2.ensures
