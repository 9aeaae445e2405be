-- `nexus::plain::put_words` meets its contract. Assumes nothing.
use Prim.Native.Nat.{ℕ, ◌+◌}
use mathlib.Core.Path.{ap, ◌∙◌}
use native.Mathlib.Omega.{arith}
use Rattle.fields.specs.Field.{put}
use Rattle.nexus.specs.CopyLaws.{words_copied}
use Rattle.nexus.proofs.plain.put_words.Goals as goal

pub returns : goal.returns
returns c =
    let a = c.args in
    let p = c.put64 in
    words_copied a.s.now (λ i. omega (arith, c.type_inv.s i)) a.out.now a.to a.b _ _ (omega arith)
    (p.ensures ∙ ap (λ (v : ℕ). put 8 a.out.now a.to v) c.get64-first.ensures)
    (c.put64-2.ensures ∙ ap (λ (v : ℕ). put 8 p.new.s (a.to + 8) v) c.get64-second.ensures)
