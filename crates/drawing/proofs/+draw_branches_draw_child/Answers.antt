use Rattle.std.proofs.Common.{◌≡◌, ℕ, Bool, true, false, nat_eq, List, ap, sym, ◌∙◌, eqb-true, arith}
use Rattle.std.proofs.lemmas.Bool.{eqb-false}
use Rattle.std.specs.Int.Count.{ones}
use lib.ListN.{length, take, length-replicate}
use lib.Seq.{take_all, length-take-le}
use Rattle.trees.specs.Mask.{without, lowest}
use Rattle.trees.specs.Written.{widest}
use Rattle.head.specs.Head.{numbers_at, names_at}
use Rattle.head.specs.HeadLaws.{names-at}
use Rattle.writer.specs.Branch.{Ready, Step}
use Rattle.writer.specs.BranchLaws.{mask-inner, child-ok, rest-ready}
use Rattle.writer.specs.StepLaws.{step_less, step_fewer}
use Rattle.drawing.specs.CountLaws.{count-found}
use Rattle.drawing.specs.StepLaws.{step-none, step-last, step-more, step-within, step-prefix, step-ones, leaf-put, group-put, name-short, leaf-fits, longer-taken, taken-length}
use Rattle.drawing.proofs.+draw_branches_draw_child.Goals as goal

-- what the test for an empty mask tells
none_in : {b : Bool} {m : ℕ} → b ≡ nat_eq m 0 → b ≡ true → m ≡ 0
none_in e t = eqb-true _ _ (sym e ∙ t)

some_in : {b : Bool} {m : ℕ} → b ≡ nat_eq m 0 → b ≡ false → m ≡ 0 → ⊥
some_in e t = eqb-false _ _ (sym e ∙ t)

-- what is known once the widest split is found
known : {n : ℕ} {ns : List (List ℕ)} {s : List ℕ} {m r i x : ℕ} → Ready n ns s m r → (r ≡ 0 → ⊥) → i ≡ lowest r
    → x ≡ widest m i (take (length s) s) → Step n ns s m r i x
known {s = s} ready some smallest wide =
    record { ready = ready; some = some; smallest = smallest; wide = wide ∙ ap (widest _ _) (take_all (length s) s (omega arith)) }

pub draw_branches-returns-then-is_empty-clause-put : goal.draw_branches-returns-then-is_empty-clause-put
draw_branches-returns-then-is_empty-clause-put t c = step-none _ _ _ _ _ _ _ _ (none_in c.is_empty.ensures c.if-is_empty.true)

pub draw_branches-draw_child-e-requires : goal.draw_branches-draw_child-e-requires
draw_branches-draw_child-e-requires t c =
    let p = c.requires in
    let k = known p.ready (some_in c.is_empty.ensures c.if-is_empty.false) c.lowest_taxon-i.ensures.result_value c.widest_in-x.ensures in
    let o = step-ones k (c.taxa_without-rest.ensures ∙ ap (without _) c.child_mask.ensures) in
    (omega (arith, c.decreases, step_less k), (p.head_bytes_in_bounds, (c.lowest_taxon-i.ensures.result_bound, (child-ok k, (p.ready.names, (p.counted, (step-within k, (step-prefix k _ p.m_len_bound, omega (arith, p.r_bound)))))))))

pub draw_branches-returns-then-last : goal.draw_branches-returns-then-last
draw_branches-returns-then-last t c =
    let k = known c.requires.ready (some_in c.is_empty.ensures c.if-is_empty.false) c.lowest_taxon-i.ensures.result_value c.widest_in-x.ensures in
    let q = c.taxa_without-rest.ensures ∙ ap (without _) c.child_mask.ensures in
    let o = step-ones k q in
    let d = c.draw_child-e.ensures in
    record {
      put = step-last k q _ _ c.if-last.true (none_in c.is_empty-last.ensures c.if-last.true) c.put_byte.ensures d.put;
      fits = λ f. omega (arith, d.prefix_bound);
    }

pub draw_branches-draw_branches-requires : goal.draw_branches-draw_branches-requires
draw_branches-draw_branches-requires t c =
    let p = c.requires in
    let k = known p.ready (some_in c.is_empty.ensures c.if-is_empty.false) c.lowest_taxon-i.ensures.result_value c.widest_in-x.ensures in
    let q = c.taxa_without-rest.ensures ∙ ap (without _) c.child_mask.ensures in
    let o = step-ones k q in
    (omega (arith, c.decreases, step_fewer k q), (p.head_bytes_in_bounds, (rest-ready k q, (p.counted, (p.m_len_bound, omega (arith, c.put_word-b.ensures.ends, p.r_bound, c.draw_child-e.ensures.prefix_bound))))))

pub draw_branches-returns : goal.draw_branches-returns
draw_branches-returns t c =
    let k = known c.requires.ready (some_in c.is_empty.ensures c.if-is_empty.false) c.lowest_taxon-i.ensures.result_value c.widest_in-x.ensures in
    let q = c.taxa_without-rest.ensures ∙ ap (without _) c.child_mask.ensures in
    let o = step-ones k q in
    let some = some_in c.is_empty-last.ensures c.if-last.false in
    let d = c.draw_child-e.ensures in
    let b = c.put_word-b.ensures in
    let e = c.draw_branches.ensures in
    record {
      put = step-more k q _ _ c.if-last.false some c.put_byte.ensures d.put b e.put;
      fits = λ f. omega (arith, d.prefix_bound, b.ends, e.fits some);
    }

pub draw_child-put_leaf-requires-clause-i_len_bound : goal.draw_child-put_leaf-requires-clause-i_len_bound
draw_child-put_leaf-requires-clause-i_len_bound t c =
    let p = c.requires in
    let h = c.args.s.now in
    name-short (numbers_at h).taxa (names_at h) c.args.i.0 _ p.s_value p.child.named (names-at _ _ p.child.named)

pub draw_child-returns-then-is_empty : goal.draw_child-returns-then-is_empty
draw_child-returns-then-is_empty t c =
    let p = c.requires in
    let h = c.args.s.now in
    let z = none_in c.is_empty.ensures c.if-is_empty.true in
    let name = names-at h c.args.i.0 p.child.named in
    let short = name-short (numbers_at h).taxa (names_at h) c.args.i.0 _ p.s_value p.child.named name in
    record {
      put = leaf-put _ _ _ _ _ _ _ z name c.put_leaf.ensures;
      prefix_bound = leaf-fits _ _ _ _ short z p.x_len_bound c.put_leaf.ensures;
    }

pub draw_child-lengthen-n-requires-clause-n_in_bounds : goal.draw_child-lengthen-n-requires-clause-n_in_bounds
draw_child-lengthen-n-requires-clause-n_in_bounds t c =
    let p = c.requires in
    let z = some_in c.is_empty.ensures c.if-is_empty.false in
    let n = c.count_of.ensures ∙ count-found p.counted c.args.x (p.mem z) in
    let small = p.counted.small c.args.x in
    let b = c.put_branch-e.ensures in
    let few = b.upper_bound.1 (omega (arith, n)) in
    omega (arith, few, b.put.ends, p.x_len_bound)

pub draw_child-slice_bounds-longer-end : goal.draw_child-slice_bounds-longer-end
draw_child-slice_bounds-longer-end t c =
    let p = c.requires in
    let z = some_in c.is_empty.ensures c.if-is_empty.false in
    let n = c.count_of.ensures ∙ count-found p.counted c.args.x (p.mem z) in
    let small = p.counted.small c.args.x in
    let b = c.put_branch-e.ensures in
    let few = b.upper_bound.1 (omega (arith, n)) in
    omega (arith, few, c.lengthen-n.ensures.value, c.lengthen-n.auto.longer, b.put.ends, p.x_len_bound, length-replicate {A = ℕ} 512 0)

pub draw_child-slice_bounds-draw_branches-end : goal.draw_child-slice_bounds-draw_branches-end
draw_child-slice_bounds-draw_branches-end t c =
    let p = c.requires in
    let z = some_in c.is_empty.ensures c.if-is_empty.false in
    let n = c.count_of.ensures ∙ count-found p.counted c.args.x (p.mem z) in
    let small = p.counted.small c.args.x in
    let b = c.put_branch-e.ensures in
    let few = b.upper_bound.1 (omega (arith, n)) in
    sym (length-take-le _ _ (omega (arith, few, c.lengthen-n.auto.longer, c.lengthen-n.ensures.value, b.put.ends, p.x_len_bound, length-replicate {A = ℕ} 512 0)))

pub draw_child-draw_branches-requires : goal.draw_child-draw_branches-requires
draw_child-draw_branches-requires t c =
    let p = c.requires in
    let z = some_in c.is_empty.ensures c.if-is_empty.false in
    let count = c.count_of.result in
    let n = c.count_of.ensures ∙ count-found p.counted c.args.x (p.mem z) in
    let small = p.counted.small c.args.x in
    let b = c.put_branch-e.ensures in
    let few = b.upper_bound.1 (omega (arith, n)) in
    let l = c.lengthen-n.ensures in
    let made = longer-taken c.args.prefix.now c.args.last count b.put l.put (omega (arith, few, l.value, b.put.ends, p.x_len_bound, length-replicate {A = ℕ} 512 0)) in
    let long = taken-length c.args.prefix.now c.args.last count b.put made in
    let taxa = ap ones (mask-inner c.args.i.0 c.args.x z) in
    (omega (arith, c.decreases), (p.head_bytes_in_bounds, (p.child.ready z, (p.counted, (omega (arith, few, long, p.x_len_bound), omega (arith, few, long, taxa, p.x_bound))))))

pub draw_child-returns : goal.draw_child-returns
draw_child-returns t c =
    let p = c.requires in
    let z = some_in c.is_empty.ensures c.if-is_empty.false in
    let count = c.count_of.result in
    let n = c.count_of.ensures ∙ count-found p.counted c.args.x (p.mem z) in
    let small = p.counted.small c.args.x in
    let b = c.put_branch-e.ensures in
    let few = b.upper_bound.1 (omega (arith, n)) in
    let l = c.lengthen-n.ensures in
    let e = c.draw_branches.ensures in
    let made = longer-taken c.args.prefix.now c.args.last count b.put l.put (omega (arith, few, l.value, b.put.ends, p.x_len_bound, length-replicate {A = ℕ} 512 0)) in
    let long = taken-length c.args.prefix.now c.args.last count b.put made in
    let taxa = ap ones (mask-inner c.args.i.0 c.args.x z) in
    record {
      put = group-put _ _ _ _ _ _ _ z n made b.put e.put;
      prefix_bound = omega (arith, few, long, taxa, e.fits z);
    }
