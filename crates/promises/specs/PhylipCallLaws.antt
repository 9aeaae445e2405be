-- What the calls on matrices in PHYLIP's layout answer, of their own promises. The text that `write_matrix` writes of whole lent bytes is
-- the first bytes of its buffer, as many as it answers; `read_matrix` takes any text, and no collection. Assumes nothing.
--
--   ReadMatrix f out a       the text f, read into the buffer `out`, may be answered a
--   fill_matrix x out         how a matrix that is read is answered: how many trees, and the buffer with its values at the front
--   for_trees t a             a number of values that is answered, as the number t of trees
--   read-follows             reading is answered by the definitions
--   written-reads-back       what is written is read as the matrix that the collection answers, with its number of trees
--   written-refused          reading that is refused with 4 alone, exactly where the buffer has fewer than t * t elements
--   lines-short              each line that is written has at most 10 + 4 * t bytes before its LF
--   write-matrix-refused     writing is refused with 4 alone, exactly where the text is longer than the buffer
--   room-enough              which never has to be longer than 4,205,573 bytes
--   read-matrix-refused      24, 25 and 4 are answered exactly where their fault is the first, and leave the buffer
--   read-matrix-malformed, read-matrix-uneven, read-matrix-no-room     so of each number
--   read-matrix-untouched    whatever is refused, the buffer stays
--   read-matrix-given        any other text is answered by its number of trees, with its values at the front of the buffer
--   read-matrix-alike        texts of one matrix, whatever their names, spaces and leading zeros, are answered alike
use Rattle.std.specs.Prelude.{ℕ, suc, ◌+◌, ◌*◌, ◌^◌, ◌≤◌, ◌<◌, ◌≡◌, refl, ◌⊎◌, ◌↔◌, Bool, true, false, ltb, take, drop, if◌then◌else◌, Result}
use Rattle.std.proofs.Common.{arith, sym, ap₂, subst, ◌∙◌, inl, inr, length-append, ltb-true, ltb-false}
use Rattle.std.proofs.Math.Path.{ap}
use Rattle.std.proofs.Math.Logic.Iff.{trans as iff_trans}
use mathlib.Core.List.{List, [], ◌∷◌, ◌++◌, map, append_assoc}
use Rattle.std.proofs.Math.ListN.{length, length-map}
use Rattle.trees.specs.Plain.{Answer, refused, gives, byte}
use Rattle.trees.specs.Length.{is_digit}
use Rattle.trees.specs.Decimal.{digits_of}
use Rattle.trees.specs.Distance as of
use Rattle.trees.specs.Questions.{if_room, matrix_of}
use Rattle.trees.specs.Phylip.{row_text, row_texts, square_text, between, Square}
use Rattle.trees.specs.PhylipCall.{phylip_text, phylip_of, read_phylip_of}
use Rattle.theorems.specs.ListLaws.{map-mem, Mem, every-at}
use Rattle.theorems.specs.HeldLaws.{Whole, whole-facts}
use Rattle.theorems.specs.MatrixLaws.{matrix-length}
use Rattle.theorems.specs.DecimalLaws.{digit-above, digits-digit, digits-few}
use Rattle.theorems.specs.BetweenLaws.{between_first}
use Rattle.theorems.specs.PhylipLayout.{LaidOut, Even}
use Rattle.theorems.specs.PhylipRefusalLaws.{Malformed, NotEven, NoRoom, PhylipRefused, phylip-refusals-in-order, twenty-four-exactly, twenty-five-exactly, four-exactly, matrix-given-exactly, writing-makes-no-difference}
use Rattle.theorems.specs.PhylipWrittenLaws.{row_ends, row-short}
use Rattle.theorems.specs.PhylipCallLaws.{doubled-few, whole-few, phylip-most, phylip-reads-back, phylip-refused-exactly}
use Rattle.answers.specs.Answers.{number_given}
use Rattle.answers.specs.Filled.{length_given, front}
use Rattle.answers.specs.AnswerLaws.{gives≢refused}
use Rattle.layout.specs.Store.{held_at}
use Rattle.layout.specs.WholeStore.{whole_at}
use Rattle.store.specs.HeldWholeLaws.{held_whole}
use Rattle.phylip.specs.Reading.{trees_given, values_given}
use Rattle.phylip.proofs.read_matrix.Reads as reads_matrix
use Rattle.promises.specs.Calls.{matrix, write-matrix, Reply, filled, fill, reply}
use Rattle.promises.specs.Steps.{lent, lent_mut, Asked}
use Rattle.promises.specs.StepLaws.{asked-follows}
use Rattle.promises.specs.ReadBackCallLaws.{given_is}
use Rattle.promises.specs.SplitFileCallLaws.{filled-refusal, answered}
use Rattle.answers.specs.declared.Refusal.{Refusal}

-- ---- reading

abbrev pub ReadMatrix : List ℕ → List ℕ → Reply → Type 0
ReadMatrix f out a =
    (r : Result ℕ Refusal) × (left : List ℕ) × reads_matrix.Post ([], ([], tt)) (lent f, (lent_mut out, tt)) r (lent f, (lent_mut left, tt)) × (a ≡ filled (number_given r) left)

unfoldable pub fill_matrix : Answer Square → List ℕ → Reply
unfolding trees_given values_given front
fill_matrix x out = filled (trees_given x) (front (values_given x) out)

pub read-follows : (f out : List ℕ) (a : Reply) → ReadMatrix f out a → a ≡ fill_matrix (read_phylip_of f (length out)) out
unfolding fill_matrix
read-follows f out a x = x.3 ∙ ap₂ filled x.2.0 x.2.1

-- a buffer that is filled with what a text reads as
read-refusal : (x : Answer Square) (out : List ℕ) (k : ℕ) → (fill_matrix x out ≡ filled (refused k) out) ↔ (x ≡ refused k)
unfolding fill_matrix trees_given values_given front
read-refusal (refused j) out k = (λ e. cc, λ e. ap (λ y. fill_matrix y out) e)
read-refusal (gives m) out k = (λ e. absurd (gives≢refused m.trees k cc), λ e. absurd (gives≢refused m k e))

refusal-leaves : (x : Answer Square) (out left : List ℕ) (k : ℕ) → filled (refused k) left ≡ fill_matrix x out → left ≡ out
unfolding fill_matrix trees_given values_given front
refusal-leaves (refused j) out left k e = cc
refusal-leaves (gives m) out left k e = absurd (gives≢refused m.trees k cc)

matrix-given : (x : Answer Square) (out : List ℕ) (t : ℕ) (left : List ℕ) → (fill_matrix x out ≡ filled (gives t) left)
    ↔ ((m : Square) × (x ≡ gives m) × (m.trees ≡ t) × (left ≡ m.values ++ drop (length m.values) out))
unfolding fill_matrix trees_given values_given front
matrix-given (refused j) out t left = (λ e. absurd (gives≢refused t j cc), λ x. absurd (gives≢refused x.0 j (sym x.1)))
matrix-given (gives m) out t left = (
  λ e. (m, refl, cc, cc),
  λ x. ap (λ y. fill_matrix y out) x.1 ∙ ap₂ (λ (n : ℕ) (l : List ℕ). filled (gives n) l) x.2 (sym x.3),
)

-- ---- answers that are given where there is room

abbrev ByRoom : ℕ → List ℕ → Answer (List ℕ) → Type 0
ByRoom room l x = ((room < length l) × (x ≡ refused 4)) ⊎ ((length l ≤ room) × (x ≡ gives l))

by-room : (room : ℕ) (l : List ℕ) → ByRoom room l (if_room room l)
unfolding if_room
by-room room l = go (ltb room (length l)) refl
  where
    go : (b : Bool) → ltb room (length l) ≡ b → ByRoom room l (if b then refused 4 else gives l)
    go true e = inl (ltb-true room (length l) e, refl)
    go false e = inr (ltb-false room (length l) e, refl)

room-given : (room : ℕ) (xs ys : List ℕ) (x : Answer (List ℕ)) → ByRoom room xs x → x ≡ gives ys → ys ≡ xs
room-given room xs ys x (inl h) e = absurd (gives≢refused ys 4 (sym e ∙ h.1))
room-given room xs ys x (inr h) e = let d : gives ys ≡ gives xs = sym e ∙ h.1 in cc

room-refused : (room : ℕ) (l : List ℕ) (k : ℕ) (x : Answer (List ℕ)) → ByRoom room l x → (x ≡ refused k) ↔ ((k ≡ 4) × (room < length l))
room-refused room l k x (inl h) = (λ e. let d : x ≡ refused 4 = h.1 in (cc, h.0), λ y. h.1 ∙ ap (λ (j : ℕ). refused j) (sym y.0))
room-refused room l k x (inr h) = (λ e. absurd (gives≢refused l k (sym h.1 ∙ e)), λ y. absurd (omega (arith, y.1, h.0)))

-- ---- what is written, read

abbrev pub for_trees : ℕ → Answer ℕ → Answer ℕ
for_trees t (refused k) = refused k
for_trees t (gives n) = gives t

-- values that are answered, as the matrix of t trees
abbrev as_square : ℕ → Answer (List ℕ) → Answer Square
as_square t (refused k) = refused k
as_square t (gives es) = gives (record { trees = t; values = es })

read-as-answered : (t : ℕ) (x : Answer (List ℕ)) (cells : List ℕ) (n : Answer ℕ) (es : List ℕ) → filled n es ≡ fill x cells
    → fill_matrix (as_square t x) cells ≡ filled (for_trees t n) es
unfolding fill fill_matrix length_given front trees_given values_given
read-as-answered t (refused k) cells n es e =
    let p : n ≡ refused k = cc in
    let q : es ≡ cells = cc in
    rw (p, q) refl
read-as-answered t (gives x) cells n es e =
    let p : n ≡ gives (length x) = cc in
    let q : es ≡ front (gives x) cells = cc in
    rw (p, q) refl

-- ---- lines

row-parts : (i : ℕ) (vs rest w : List ℕ) → row_text i vs ≡ w ++ 10 ∷ [] → (Mem 10 w → ⊥) → between 10 (row_text i vs ++ rest) ≡ w ∷ between 10 rest
row-parts i vs rest w e f = ap (λ (k : List ℕ). between 10 (k ++ rest)) e ∙ ap (between 10) (append_assoc w (10 ∷ []) rest) ∙ between_first 10 w rest f

no-LF : (n : ℕ) → Mem 10 (digits_of n) → ⊥
no-LF n m = omega (arith, digit-above 10 (every-at is_digit (digits_of n) (digits-digit n) 10 m))

module _ (l : List ℕ) (most : ℕ) where
  none-long : Mem l (between 10 []) → length l ≤ most
  unfolding between
  none-long (inl e) = omega (arith, ap length e)
  none-long (inr m) = absurd m

  one-or-rest : (w : List ℕ) (ws : List (List ℕ)) → length w ≤ most → (Mem l ws → length l ≤ most) → Mem l (w ∷ ws) → length l ≤ most
  one-or-rest w ws h f (inl e) = omega (arith, ap length e, h)
  one-or-rest w ws h f (inr m) = f m

-- the lines of the trees ts, none of which has more than 62 splits
module _ (ts : List (List ℕ)) (few : (u : List ℕ) → Mem u ts → length u ≤ 62) where
  values-small : (u : List ℕ) → length u ≤ 62 → (v : ℕ) → Mem v (map (of.doubled u) ts) → v < 1000
  values-small u f v m = let b = map-mem (of.doubled u) ts v m in omega (arith, b.2, doubled-few u b.0 f (few b.0 b.1))

  line-short : (i : ℕ) (u w : List ℕ) → i < 10 ^ 9 → length u ≤ 62 → row_text i (map (of.doubled u) ts) ≡ w ++ 10 ∷ [] → length w ≤ 10 + 4 * length ts
  line-short i u w h f e =
      omega (arith, ap length e, length-append w (10 ∷ []), row-short i (map (of.doubled u) ts) h (values-small u f), length-map ts (of.doubled u))

  rows_short : (i : ℕ) (us : List (List ℕ)) → i + length us ≤ 10 ^ 9 → ((u : List ℕ) → Mem u us → length u ≤ 62)
      → (l : List ℕ) → Mem l (between 10 (row_texts i (map (λ t. map (of.doubled t) ts) us))) → length l ≤ 10 + 4 * length ts
  unfolding row_texts
  rows_short i [] h f l m = none-long l (10 + 4 * length ts) m
  rows_short i (u ∷ us) h f l m =
      let vs = map (of.doubled u) ts in
      let e = row_ends i vs in
      let rest = row_texts (suc i) (map (λ t. map (of.doubled t) ts) us) in
      one-or-rest l (10 + 4 * length ts) e.0 (between 10 rest)
      (line-short i u e.0 (omega arith) (f u (inl refl)) e.1)
      (rows_short (suc i) us (omega arith) (λ v n. f v (inr n)) l)
      (subst (λ (k : List (List ℕ)). Mem l k) (row-parts i vs rest e.0 e.1 e.2) m)

  text-lines : length ts ≤ 1024 → (l : List ℕ) → Mem l (between 10 (phylip_text ts)) → length l ≤ 10 + 4 * length ts
  unfolding phylip_text square_text
  text-lines h l m =
      let rows = map (λ t. map (of.doubled t) ts) ts in
      let n = length-map ts (λ t. map (of.doubled t) ts) in
      one-or-rest l (10 + 4 * length ts) (digits_of (length rows)) (between 10 (row_texts 0 rows))
      (omega (arith, digits-few (length rows) 3 (omega (arith, n, h))))
      (rows_short 0 ts (omega (arith, h)) few l)
      (subst (λ (k : List (List ℕ)). Mem l k) (between_first 10 (digits_of (length rows)) (row_texts 0 rows) (no-LF (length rows))) m)

-- ---- what a collection writes

module _ (s : List ℕ) (w : whole_at s ≡ true) (out : List ℕ) where
  abbrev trees : List (List ℕ)
  trees = (held_at s).trees

  whole : Whole (held_at s)
  whole = whole-facts (held_at s) (held_whole s w)

  -- "then 4"
  pub write-matrix-refused : (a : Reply) (k : ℕ) → Asked s (write-matrix out) a → (a ≡ filled (refused k) out) ↔ ((k ≡ 4) × (length out < length (phylip_text trees)))
  unfolding reply phylip_of
  write-matrix-refused a k q =
      iff_trans (answered (asked-follows s w (write-matrix out) a q))
      (iff_trans (filled-refusal (phylip_of (held_at s) (length out)) out k) (room-refused (length out) (phylip_text trees) k (phylip_of (held_at s) (length out)) (by-room (length out) (phylip_text trees))))

  pub room-enough : 4205573 ≤ length out → (a : Reply) → Asked s (write-matrix out) a → a ≡ fill (gives (phylip_text trees)) out
  unfolding reply phylip_of
  room-enough h a q = asked-follows s w (write-matrix out) a q ∙ ap (λ y. fill y out) (go (by-room (length out) (phylip_text trees)))
    where
      go : ByRoom (length out) (phylip_text trees) (phylip_of (held_at s) (length out)) → phylip_of (held_at s) (length out) ≡ gives (phylip_text trees)
      go (inl x) = absurd (omega (arith, h, x.0, phylip-most (held_at s) whole))
      go (inr x) = x.1

  module _ (n : ℕ) (left : List ℕ) (p : Asked s (write-matrix out) (filled (gives n) left)) where
    -- what was written
    abbrev text : List ℕ
    text = take n left

    given : phylip_of (held_at s) (length out) ≡ gives text
    unfolding reply
    given = (given_is (phylip_of (held_at s) (length out)) out n left (asked-follows s w (write-matrix out) (filled (gives n) left) p)).0

    text-is : text ≡ phylip_text trees
    unfolding phylip_of
    text-is = room-given (length out) (phylip_text trees) text (phylip_of (held_at s) (length out)) (by-room (length out) (phylip_text trees)) given

    reads_as : (cells : ℕ) → read_phylip_of text cells ≡ as_square (length trees) (matrix_of (held_at s) cells)
    unfolding matrix_of
    reads_as cells = go (by-room cells (of.matrix trees))
      where
        go : ByRoom cells (of.matrix trees) (matrix_of (held_at s) cells) → read_phylip_of text cells ≡ as_square (length trees) (matrix_of (held_at s) cells)
        go (inl x) =
            (phylip-refused-exactly (held_at s) whole (length out) cells 4 text given).1 (refl, omega (arith, x.0, matrix-length trees))
            ∙ ap (as_square (length trees)) (sym x.1)
        go (inr x) = phylip-reads-back (held_at s) whole (length out) cells text (of.matrix trees) given x.1 ∙ ap (as_square (length trees)) (sym x.1)

    -- "What we write reads back as the same matrix"
    pub written-reads-back : (cells : List ℕ) (k : Answer ℕ) (es : List ℕ) (a : Reply) → Asked s (matrix cells) (filled k es) → ReadMatrix text cells a
        → a ≡ filled (for_trees (length trees) k) es
    unfolding reply
    written-reads-back cells k es a q r =
        read-follows text cells a r
        ∙ ap (λ y. fill_matrix y cells) (reads_as (length cells))
        ∙ read-as-answered (length trees) (matrix_of (held_at s) (length cells)) cells k es (asked-follows s w (matrix cells) (filled k es) q)

    pub written-refused : (cells : List ℕ) (k : ℕ) (a : Reply) → ReadMatrix text cells a
        → (a ≡ filled (refused k) cells) ↔ ((k ≡ 4) × (length cells < length trees * length trees))
    written-refused cells k a r =
        iff_trans (answered (read-follows text cells a r))
        (iff_trans (read-refusal (read_phylip_of text (length cells)) cells k) (phylip-refused-exactly (held_at s) whole (length out) (length cells) k text given))

    -- "a name padded with spaces to ten", "one space before each doubled distance"
    pub lines-short : (l : List ℕ) → Mem l (between (byte "\n") text) → length l ≤ 10 + 4 * length trees
    lines-short l m =
        let f = whole-few (held_at s) whole in
        text-lines trees f.few-splits f.few-trees l (subst (λ (k : List ℕ). Mem l (between 10 k)) text-is m)

-- ---- any text

module _ (f out : List ℕ) (a : Reply) (q : ReadMatrix f out a) where
  -- "24 malformed, 25 not symmetric or diagonal not zero, in that order, then 4"
  refused-by : (k : ℕ) → (a ≡ filled (refused k) out) ↔ (read_phylip_of f (length out) ≡ refused k)
  refused-by k = iff_trans (answered (read-follows f out a q)) (read-refusal (read_phylip_of f (length out)) out k)

  pub read-matrix-refused : (k : ℕ) → (a ≡ filled (refused k) out) ↔ PhylipRefused f (length out) k
  read-matrix-refused k = iff_trans (refused-by k) (phylip-refusals-in-order f (length out) k)

  pub read-matrix-malformed : (a ≡ filled (refused 24) out) ↔ Malformed f
  read-matrix-malformed = iff_trans (refused-by 24) (twenty-four-exactly f (length out))

  pub read-matrix-uneven : (a ≡ filled (refused 25) out) ↔ NotEven f
  read-matrix-uneven = iff_trans (refused-by 25) (twenty-five-exactly f (length out))

  pub read-matrix-no-room : (a ≡ filled (refused 4) out) ↔ NoRoom f (length out)
  read-matrix-no-room = iff_trans (refused-by 4) (four-exactly f (length out))

  -- "All lent memory stays as found"
  pub read-matrix-untouched : (k : ℕ) (left : List ℕ) → a ≡ filled (refused k) left → left ≡ out
  read-matrix-untouched k left e = refusal-leaves (read_phylip_of f (length out)) out left k (sym e ∙ read-follows f out a q)

  pub read-matrix-given : (t : ℕ) (left : List ℕ) → (a ≡ filled (gives t) left)
      ↔ ((m : Square) × (LaidOut f m × Even m × (m.trees * m.trees ≤ length out)) × (m.trees ≡ t) × (left ≡ m.values ++ drop (length m.values) out))
  read-matrix-given t left =
      iff_trans (answered (read-follows f out a q))
      (iff_trans (matrix-given (read_phylip_of f (length out)) out t left)
      (λ x. (x.0, (matrix-given-exactly f (length out) x.0).0 x.1, x.2, x.3), λ x. (x.0, (matrix-given-exactly f (length out) x.0).1 x.1, x.2, x.3)))

-- "names of any ten bytes from 32 to 126, one space or more before a value, all numbers in decimal digits"
pub read-matrix-alike : (f g out : List ℕ) (m : Square) → LaidOut f m → LaidOut g m → (a b : Reply) → ReadMatrix f out a → ReadMatrix g out b → a ≡ b
read-matrix-alike f g out m x y a b p q =
    let e : read_phylip_of f (length out) ≡ read_phylip_of g (length out) =
    ap (λ (k : List ℕ). read_phylip_of k (length out)) (sym x.2)
    ∙ writing-makes-no-difference x.0 y.0 x.1 y.1 (x.3 ∙ sym y.3) (length out)
    ∙ ap (λ (k : List ℕ). read_phylip_of k (length out)) y.2 in
    read-follows f out a p ∙ ap (λ z. fill_matrix z out) e ∙ sym (read-follows g out b q)
