-- `phylip::writing::has_room` meets its contract. Assumes nothing.
use Prim.Native.Nat.{ℕ}
use native.Mathlib.Omega.{arith}
use mathlib.Core.Path.{sym, ap}
use borrow.Author.Tests.{le-leb}
use lib.Dec.{leb}
use lib.ListN.{length}
use Rattle.trees.specs.PhylipCall.{phylip_text}
use Rattle.layout.specs.Store.{held_at}
use Rattle.rows.specs.ReadLaws.{long}
use Rattle.phylip.specs.Writing.{most_bytes}
use Rattle.phylip.specs.WritingLaws.{trees-most, text-short}
use Rattle.phylip.proofs.writing.has_room.Goals as goal

pub trees_held-requires : goal.trees_held-requires
trees_held-requires c = long _ c.requires

pub most_bytes-requires : goal.most_bytes-requires
most_bytes-requires c = omega (arith, c.trees_held.ensures, trees-most _ c.requires)

pub returns-then-most_bytes-room : goal.returns-then-most_bytes-room
returns-then-most_bytes-room c =
    let n = ap most_bytes c.trees_held.ensures in
    sym (le-leb (length (phylip_text (held_at c.args.s.now).trees)) c.args.room (omega (arith, c.most_bytes.ensures, n, text-short _ c.requires)))

pub text_length-requires : goal.text_length-requires
text_length-requires c = c.requires

pub returns : goal.returns
returns c = ap (λ (n : ℕ). leb n c.args.room) c.text_length.ensures
