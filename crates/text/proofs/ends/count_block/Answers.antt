-- `text::ends::count_block` meets its contract: byte by byte, none, or its semicolons. Assumes nothing.
use mathlib.Core.Path.{sym, ap, ◌∙◌}
use mathlib.Core.Bool.{Bool}
use native.Mathlib.Omega.{arith}
use Rattle.trees.specs.Batch.{texts_in}
use Rattle.text.proofs.PieceLaws.{quoted-none}
use Rattle.text.proofs.ends.count_block.Goals as goal

pub returns-then-q : goal.returns-then-q
returns-then-q c = let p = c.args.block.now in record { value = sym (ap (λ (x : Bool). texts_in x p) c.if-q.true ∙ quoted-none p (sym c.holds.ensures ∙ c.if-holds.false)); upper_bound = omega arith }

pub count_plain-requires : goal.count_plain-requires
count_plain-requires c = record { block_len_bound = c.requires; block_value = sym c.holds.ensures ∙ c.if-holds.false }

pub returns : goal.returns
returns c = let p = c.args.block.now in record { value = c.count_plain.ensures.value ∙ sym (ap (λ (x : Bool). texts_in x p) c.if-q.false); upper_bound = c.count_plain.ensures.upper_bound }
