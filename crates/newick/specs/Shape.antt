-- What reading a text's shape comes to: the nodes that stand in it, and what was noted of them.
--
--   Labels s ts ws      ts are the begins and ends of tokens in s, and ws the labels that stand there
--   spans i t           of each inner node of t, children before their parents, behind i leaves: its first leaf, and the one behind its last
--   Ready s c           what the readers may rely on: a text that is not too long, and a mark in it
--   NodeReads, ChildrenReads     a node from i on reads as x; so do nodes, with commas between, and the closing bracket behind them
--   Noted               what was noted of the nodes t between two marks
--   One, NodeRead       one node up to j; it and what was noted, or a fault
--   Shaped, ShapeRead   the same of a whole text
use Rattle.std.specs.Prelude.{◌≡◌, ℕ, ◌+◌, ◌-◌, ◌*◌, ◌<◌, ◌≤◌, List, [], ◌∷◌, ◌++◌, length}
use Rattle.std.proofs.Math.Option.{none as nothing, some}
use Rattle.std.proofs.Math.Seq.{slice}
use Rattle.std.proofs.lemmas.List.Edits.{sets}
use Rattle.trees.specs.Held.{most_text}
use Rattle.trees.specs.Tree.{Nodes, nil, leaf, inner, width, leaves}
use Rattle.trees.specs.Reading.{Read, bracketed, read_node, read_nodes, reading}
use Rattle.text.specs.Read.{NoBlank, symbols_at}
use Rattle.newick.specs.declared.shape.Mark.{Mark}

pub data Labels (s : List ℕ) : List ℕ → List (List ℕ) → Type 0 where
  none : Labels s [] []
  one : {b e : ℕ} {ts : List ℕ} {ws : List (List ℕ)} → b ≤ e → e ≤ length s → Labels s ts ws → Labels s (b ∷ e ∷ ts) (slice b e s ∷ ws)

unfoldable pub spans : ℕ → Nodes → List ℕ
unfolding leaves
spans i nil = []
spans i (leaf w e r) = spans (i + 1) r
spans i (inner c e r) = spans i c ++ (i ∷ (i + length (leaves c)) ∷ spans (i + length (leaves c)) r)

-- ---- the readers

pub record Ready (s : List ℕ) (c : Mark) : Type 0 where
  pub short : length s ≤ most_text
  pub within : c.at ≤ length s
  pub few-leaves : c.leaves ≤ c.at
  pub few-inner : c.inner ≤ c.at

-- with at most d brackets open at once, and steps enough
abbrev pub NodeReads : List ℕ → ℕ → ℕ → Read → Type 0
NodeReads s d i x = (f : ℕ) → 2 * (length s - i) < f → read_node f d (symbols_at s i) ≡ x

abbrev pub ChildrenReads : List ℕ → ℕ → ℕ → Read → Type 0
ChildrenReads s d i x = (f : ℕ) → 2 * (length s - i) + 1 < f → bracketed (read_nodes f d (symbols_at s i)) ≡ x

-- between the marks c and r: the lists of tokens and of nodes have become those with a stroke, as far as each reaches
pub record Noted (s : List ℕ) (t : Nodes) (c r : Mark) (tokens nodes tokens' nodes' : List ℕ) : Type 0 where
  pub ends : List ℕ
  pub labels : Labels s ends (leaves t)
  pub tokened : tokens' ≡ sets tokens (2 * c.leaves) ends
  pub spanned : nodes' ≡ sets nodes (2 * c.inner) (spans c.leaves t)
  pub leaved : r.leaves ≡ c.leaves + length (leaves t)
  pub nested : 2 * r.inner ≡ 2 * c.inner + length (spans c.leaves t)
  pub few-leaves : r.leaves ≤ r.at
  pub few-inner : r.inner ≤ r.at

-- the reader R finds the node t from i up to j, where no blank stands
pub record One (R : Read → Type 0) (s : List ℕ) (i : ℕ) (t : Nodes) (j : ℕ) : Type 0 where
  pub reads : R (some (t, symbols_at s j))
  pub one : width t ≡ 1
  pub past : i < j
  pub stop : NoBlank s j

-- a mark past the text is a fault of form
pub record NodeRead (R : Read → Type 0) (s : List ℕ) (c r : Mark) (tokens nodes tokens' nodes' : List ℕ) : Type 0 where
  pub good : r.at ≤ length s → (t : Nodes) × One R s c.at t r.at × Noted s t c r tokens nodes tokens' nodes'
  pub fault : length s < r.at → R nothing

-- ---- a whole text

pub record Shaped (s : List ℕ) (t : Nodes) (r : Mark) (tokens nodes tokens' nodes' : List ℕ) : Type 0 where
  pub reads : reading s ≡ some t
  pub ends : List ℕ
  pub labels : Labels s ends (leaves t)
  pub tokened : tokens' ≡ sets tokens 0 ends
  pub spanned : nodes' ≡ sets nodes 0 (spans 0 t)
  pub leaved : r.leaves ≡ length (leaves t)
  pub nested : 2 * r.inner ≡ length (spans 0 t)

pub record ShapeRead (s : List ℕ) (r : Mark) (tokens nodes tokens' nodes' : List ℕ) : Type 0 where
  pub good : r.at ≤ length s → (t : Nodes) × Shaped s t r tokens nodes tokens' nodes'
  pub fault : length s < r.at → reading s ≡ nothing
