-- A tree whose shape was read.
--
--   shaping-room       the list of its spans is as long as before they were noted
--   shape-tokens       of a text, the tokens of the first leaves lie in itself
--   shape-itself       so do their labels
--   shape-read         so it is read by its own labels
use Rattle.std.specs.Prelude.{◌≡◌, ℕ, ◌*◌, ◌≤◌, min, List, length, replicate, refl, Result, Ok, Err}
use Rattle.std.proofs.Common.{arith, ap, ◌∙◌}
use Rattle.std.proofs.lemmas.List.{length-replicate}
use Rattle.std.proofs.lemmas.List.Edits.{sets}
use Rattle.std.proofs.Math.Seq.{length-sets}
use Rattle.trees.specs.Tree.{Nodes}
use Rattle.trees.specs.Opening.{Opening}
use Rattle.newick.specs.Shape.{spans, Shaped, ShapeRead}
use Rattle.newick.specs.Leaves.{most_leaves, Tokens}
use Rattle.newick.specs.Sound.{span_room, TreeRead}
use Rattle.newick.specs.Shaping.{Shaping}
use Rattle.newick.specs.declared.shape.Mark.{Mark}
use Rattle.newick.specs.TokenLaws.{tokens-lie, labels-first}
use Rattle.answers.specs.declared.Refusal.{Refusal}

pub shaping-room : (s w : List ℕ) (leaved : ℕ) (l : List ℕ) (n : ℕ) (m : List ℕ) → Shaping s w leaved l n m → length m ≡ span_room
shaping-room s w leaved l n m x = ap length x.spanned ∙ length-sets x.before 0 (spans 0 x.tree) ∙ x.room

module _ (s : List ℕ) (c : Mark) (tokens nodes tokens' nodes' : List ℕ) (h : ShapeRead s c tokens nodes tokens' nodes') (b : c.at ≤ length s) (pairs : length tokens ≡ 2 * most_leaves) where
  tree : Nodes
  tree = (h.good b).0

  shaped : Shaped s tree c tokens nodes tokens' nodes'
  unfolding tree
  shaped = (h.good b).1

  pub shape-tokens : Tokens s tokens' (min c.leaves most_leaves)
  shape-tokens = tokens-lie s tokens tokens' shaped.labels shaped.tokened (min c.leaves most_leaves) (omega (arith, shaped.leaved)) (omega arith)

  -- the text is a tree by its own labels, with its spans in any list that has room for them
  shape-over : (before m : List ℕ) → length before ≡ span_room → m ≡ sets before 0 (spans 0 tree) → Shaping s s c.leaves tokens' c.inner m
  shape-over before m e p = record {
    tree = tree;
    reads = shaped.reads;
    count = shaped.leaved;
    first = labels-first s tokens tokens' shaped.labels shaped.tokened (min c.leaves most_leaves) (omega (arith, shaped.leaved)) (omega arith);
    before = before;
    room = e;
    spanned = p;
    nested = shaped.nested;
  }

  pub shape-itself : length nodes ≡ span_room → Shaping s s c.leaves tokens' c.inner nodes'
  shape-itself e = shape-over nodes nodes' e shaped.spanned

  -- a fault of its leaves is one whatever list its spans stand in
  pub shape-read : (o : Opening) (r : Result (ℕ × ℕ) Refusal) (u : List ℕ) → ((m : List ℕ) → Shaping s s c.leaves tokens' c.inner m → TreeRead o s r u m m) → TreeRead o s r u nodes nodes'
  unfolding TreeRead
  shape-read o (Err r) u p = p _ (shape-over (replicate span_room 0) _ (length-replicate {A = ℕ} span_room 0) refl)
  shape-read o (Ok (k, n)) u p = λ e. let x = shape-itself e in p nodes' x (shaping-room s s c.leaves tokens' c.inner nodes' x)
