-- `head::find_taxon` meets its contract: by the label's own bytes, or by those that it is read as. Assumes nothing.
use Rattle.std.proofs.Common.{sym, refl, ◌∙◌, zero-add, arith}
use lib.Seq.{slice}
use Rattle.trees.specs.Text.{read_as}
use Rattle.theorems.specs.NameLaws.{same_true}
use Rattle.text.specs.LabelsLaws.{read-room, read-over, read-slice}
use Rattle.head.specs.FindLaws.{label-found, longer-found}
use Rattle.head.proofs.find_taxon.Goals as goal

pub returns-then-is_plain_label : goal.returns-then-is_plain_label
returns-then-is_plain_label c =
    let a = c.args in
    let w = slice a.b a.e a.text.now in let whole = label-found a.s.now w w _ (same_true (read_as w) w (sym c.is_plain_label.ensures ∙ c.if-is_plain_label.true)) c.find_name.ensures in record { value = whole.0; below = whole.1 }

pub returns-then-n-gt-MOST_HELD : goal.returns-then-n-gt-MOST_HELD
returns-then-n-gt-MOST_HELD c =
    let a = c.args in
    let w = slice a.b a.e a.text.now in let whole = label-found a.s.now w (read_as w) _ refl
    (longer-found a.s.now (read_as w) (λ i. omega (arith, c.type_inv.s i)) (read-over c.read_up_to-n.ensures (omega arith))) in record { value = whole.0; below = whole.1 }

pub find_name-requires-2 : goal.find_name-requires-2
find_name-requires-2 c = let x = c.requires.indexed in record { head_bytes_in_bounds = omega arith; s_bound = omega arith; indexed = x; b_le_e = omega arith; e_in_bounds = omega (arith, read-room c.read_up_to-n.ensures) }

pub returns : goal.returns
returns c =
    let a = c.args in
    let w = slice a.b a.e a.text.now in
    let v = rw (zero-add c.read_up_to-n.result) at (read-slice c.read_up_to-n.ensures (omega arith) (omega arith)) in let whole = label-found a.s.now w (read_as w) _ refl (rw v at c.find_name-2.ensures) in record { value = whole.0; below = whole.1 }
