-- The refusal numbers of a whole text one by one: a line for each line of document 01's table, 6 to 12, and for 17 of document 02, each of what
-- feeding answers to a text and the semicolon that ends it in an empty lane.
--
--   fed-six-exactly         the text is longer than 4,608 bytes
--   fed-seven-exactly       it is not, and the text is no tree of the grammar
--   fed-leaf-exactly        it is a tree of the grammar, and k is the fault of its leaves, from left to right: 8, 9 or 10
--   fed-seventeen-exactly   it is a tree of the grammar whose leaves have no fault, lengths are kept, and one is outside the exact range
--   fed-eleven-exactly      no fault is in the text, and the accepted trees equal the tree room
--   fed-twelve-exactly      they do not, and recorded splits and this tree's new ones together exceed the split room
use Rattle.std.specs.Prelude.{ℕ, ◌≤◌, ◌<◌, ◌≡◌, refl, ◌↔◌, false, List, [], ◌∷◌, ◌++◌, length}
use Rattle.std.proofs.Common.{arith}
use Rattle.trees.specs.Plain.{refused}
use Rattle.trees.specs.Text.{semicolon, open_after, has_end}
use Rattle.trees.specs.Tree.{Nodes, leaves}
use Rattle.trees.specs.Grammar.{IsTree}
use Rattle.trees.specs.Held.{Held, holding, most_text, lane_of, feeding}
use Rattle.theorems.specs.FaultLaws.{fault-numbers-only}
use Rattle.theorems.specs.Refusing.{Fault, Faultless, Inexact, TreesFull, splits_with, Refuses, too_long, no-form, leaf-fault, inexact, no-tree-room, no-split-room}
use Rattle.theorems.specs.RefusingLaws.{fed-refused-exactly}

-- ---- what a fault of each number is

module _ (h : Held) (s : List ℕ) where
  abbrev LeafFault : ℕ → Type 0
  LeafFault k = (t : Nodes) × (length s ≤ most_text) × IsTree s t × Fault h.opening.names [] (leaves t) k

  abbrev LengthOutside : Type 0
  LengthOutside = (t : Nodes) × Faultless h s t × Inexact h.opening.numbers.kept t

  abbrev NoTreeRoom : Type 0
  NoTreeRoom = (t : Nodes) × Faultless h s t × (Inexact h.opening.numbers.kept t → ⊥) × TreesFull h

  abbrev NoSplitRoom : Type 0
  NoSplitRoom = (t : Nodes) × Faultless h s t × (Inexact h.opening.numbers.kept t → ⊥) × (TreesFull h → ⊥) × (h.opening.numbers.split_room < splits_with h t)

  from-six : {k : ℕ} → k ≡ 6 → Refuses h s k → most_text < length s
  from-six e (too_long l) = l
  from-six e (no-form l f) = absurd (omega arith)
  from-six e (leaf-fault l i f) = absurd (omega (arith, fault-numbers-only h.opening.names f))
  from-six e (inexact f o) = absurd (omega arith)
  from-six e (no-tree-room f n q) = absurd (omega arith)
  from-six e (no-split-room f n q l) = absurd (omega arith)

  from-seven : {k : ℕ} → k ≡ 7 → Refuses h s k → (length s ≤ most_text) × ((t : Nodes) → IsTree s t → ⊥)
  from-seven e (too_long l) = absurd (omega arith)
  from-seven e (no-form l f) = (l, f)
  from-seven e (leaf-fault l i f) = absurd (omega (arith, fault-numbers-only h.opening.names f))
  from-seven e (inexact f o) = absurd (omega arith)
  from-seven e (no-tree-room f n q) = absurd (omega arith)
  from-seven e (no-split-room f n q l) = absurd (omega arith)

  from-leaf : {k : ℕ} → 8 ≤ k → k ≤ 10 → Refuses h s k → LeafFault k
  from-leaf a b (too_long l) = absurd (omega arith)
  from-leaf a b (no-form l f) = absurd (omega arith)
  from-leaf a b (leaf-fault {t} l i f) = (t, l, i, f)
  from-leaf a b (inexact f o) = absurd (omega arith)
  from-leaf a b (no-tree-room f n q) = absurd (omega arith)
  from-leaf a b (no-split-room f n q l) = absurd (omega arith)

  from-seventeen : {k : ℕ} → k ≡ 17 → Refuses h s k → LengthOutside
  from-seventeen e (too_long l) = absurd (omega arith)
  from-seventeen e (no-form l f) = absurd (omega arith)
  from-seventeen e (leaf-fault l i f) = absurd (omega (arith, fault-numbers-only h.opening.names f))
  from-seventeen e (inexact {t} f o) = (t, f, o)
  from-seventeen e (no-tree-room f n q) = absurd (omega arith)
  from-seventeen e (no-split-room f n q l) = absurd (omega arith)

  from-eleven : {k : ℕ} → k ≡ 11 → Refuses h s k → NoTreeRoom
  from-eleven e (too_long l) = absurd (omega arith)
  from-eleven e (no-form l f) = absurd (omega arith)
  from-eleven e (leaf-fault l i f) = absurd (omega (arith, fault-numbers-only h.opening.names f))
  from-eleven e (inexact f o) = absurd (omega arith)
  from-eleven e (no-tree-room {t} f n q) = (t, f, n, q)
  from-eleven e (no-split-room f n q l) = absurd (omega arith)

  from-twelve : {k : ℕ} → k ≡ 12 → Refuses h s k → NoSplitRoom
  from-twelve e (too_long l) = absurd (omega arith)
  from-twelve e (no-form l f) = absurd (omega arith)
  from-twelve e (leaf-fault l i f) = absurd (omega (arith, fault-numbers-only h.opening.names f))
  from-twelve e (inexact f o) = absurd (omega arith)
  from-twelve e (no-tree-room f n q) = absurd (omega arith)
  from-twelve e (no-split-room {t} f n q l) = (t, f, n, q, l)

-- ---- what feeding answers

module _ (h : Held) (l : ℕ) (lane : l < h.opening.numbers.lanes) (empty : lane_of h l ≡ holding []) (s : List ℕ) (one : has_end false s ≡ false) (even : open_after false s ≡ false) where
  abbrev Refused : ℕ → Type 0
  Refused k = (feeding h l (s ++ semicolon ∷ [])).answer ≡ refused k

  exactly : (k : ℕ) → Refused k ↔ Refuses h s k
  exactly = fed-refused-exactly h l lane empty s one even

  pub fed-six-exactly : Refused 6 ↔ (most_text < length s)
  fed-six-exactly = (λ e. from-six h s refl ((exactly 6).0 e), λ p. (exactly 6).1 (too_long p))

  pub fed-seven-exactly : Refused 7 ↔ ((length s ≤ most_text) × ((t : Nodes) → IsTree s t → ⊥))
  fed-seven-exactly = (λ e. from-seven h s refl ((exactly 7).0 e), λ p. (exactly 7).1 (no-form p.0 p.1))

  pub fed-leaf-exactly : (k : ℕ) → 8 ≤ k → k ≤ 10 → Refused k ↔ LeafFault h s k
  fed-leaf-exactly k a b = (λ e. from-leaf h s a b ((exactly k).0 e), λ p. (exactly k).1 (leaf-fault p.1 p.2 p.3))

  pub fed-seventeen-exactly : Refused 17 ↔ LengthOutside h s
  fed-seventeen-exactly = (λ e. from-seventeen h s refl ((exactly 17).0 e), λ p. (exactly 17).1 (inexact p.1 p.2))

  pub fed-eleven-exactly : Refused 11 ↔ NoTreeRoom h s
  fed-eleven-exactly = (λ e. from-eleven h s refl ((exactly 11).0 e), λ p. (exactly 11).1 (no-tree-room p.1 p.2 p.3))

  pub fed-twelve-exactly : Refused 12 ↔ NoSplitRoom h s
  fed-twelve-exactly = (λ e. from-twelve h s refl ((exactly 12).0 e), λ p. (exactly 12).1 (no-split-room p.1 p.2 p.3 p.4))
