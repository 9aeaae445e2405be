-- `store::lists::lowest_in` meets its contract. Assumes nothing.
use Rattle.std.proofs.Common.{ℕ, get_or, ap, ◌∙◌, arith}
use Rattle.store.proofs.lists.lowest_in.Goals as goal

pub offset_bounds-outer-at : goal.offset_bounds-outer-at
offset_bounds-outer-at c = omega (arith, c.lowest_place-at.ensures.most)

pub bounds-outer-at : goal.bounds-outer-at
bounds-outer-at c = omega (arith, c.lowest_place-at.ensures.most)

pub returns : goal.returns
returns c =
    let e = c.lowest_place-at.ensures in
    record {
      none = λ z. ap (λ (t : ℕ). get_or c.args.outer.now t 0) (e.none z) ∙ c.requires;
      some = λ f. ap (λ (t : ℕ). get_or c.args.outer.now t 0) (e.some f);
    }
