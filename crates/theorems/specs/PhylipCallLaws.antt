-- What a collection writes in PHYLIP's layout reads back as the matrix that it answers.
--
--   Few ts               the trees ts are no more than a collection may hold: at most 1,024, and none with more than 62 splits
--   doubled-few          two trees of at most 62 splits have a doubled distance of at most 124
--   trees-laid           what is written of few trees is laid out, and says their matrix
--   trees-even           their matrix is symmetric, with a zero diagonal
--   trees-read-back      so what is written is read as their matrix, neither 24 nor 25, where there is room for its values
--   trees-short          of t trees at most 5 + t * (11 + 4 * t) bytes are written
--   whole-few            the trees of a whole collection are few
--   phylip-fits          so that many bytes are room enough for what it writes
--   phylip-most          and 4,205,573 bytes always are
--   phylip-reads-back    what a whole collection writes reads back as the matrix that it answers
--   phylip-refused-exactly     reading it back is refused exactly where the room is less than the values, and with 4
use Rattle.std.specs.Prelude.{ℕ, ◌+◌, ◌*◌, ◌≤◌, ◌<◌, ◌≡◌, refl, ◌⊎◌, ◌↔◌, Bool, true, false, not, ltb, if◌then◌else◌}
use Rattle.std.proofs.Math.Nat.{mul_comm}
use Rattle.std.proofs.Common.{mul-le-mul, arith, sym, ◌∙◌, inl, inr, le-ltb, ltb-false}
use Rattle.std.proofs.Math.Path.{ap, subst}
use mathlib.Core.List.{List, [], ◌∷◌, ◌++◌, map, flat_map, flatten}
use Rattle.std.proofs.Math.Option.{some}
use Rattle.std.proofs.Math.ListN.{length}
use Rattle.std.proofs.lemmas.List.{length-map}
use Rattle.trees.specs.Plain.{member, lacking, refused, gives}
use Rattle.trees.specs.Names.{good_names}
use Rattle.trees.specs.Distance.{one_sided, doubled, matrix}
use Rattle.trees.specs.Written.{tree_of, shown}
use Rattle.trees.specs.Held.{Held}
use Rattle.trees.specs.Questions.{if_room, matrix_of}
use Rattle.trees.specs.Whole.{good_tree}
use Rattle.trees.specs.Phylip.{Square, square_in, entry}
use Rattle.trees.specs.PhylipCall.{phylip_text, phylip_of, read_phylip_of}
use Rattle.theorems.specs.ListLaws.{map-mem, less-or-not, if-false, Mem, every-at, keep-most}
use Rattle.theorems.specs.NameLaws.{good-count}
use Rattle.theorems.specs.FewLaws.{few-splits}
use Rattle.theorems.specs.WrittenLaws.{written-tree-reads-back}
use Rattle.theorems.specs.OpeningLaws.{good-opening}
use Rattle.theorems.specs.MatrixLaws.{matrix-length, matrix-sym, matrix-diagonal}
use Rattle.theorems.specs.HeldLaws.{Whole, facts-whole}
use Rattle.theorems.specs.ReadBackLaws.{names-good}
use Rattle.theorems.specs.PhylipLayout.{Even}
use Rattle.theorems.specs.PhylipSoundLaws.{laid-out-exactly}
use Rattle.theorems.specs.PhylipRefusalLaws.{four-exactly, matrix-given-exactly}
use Rattle.theorems.specs.PhylipWrittenLaws.{Writable, square-reads-back, square-short}

-- ---- trees

pub record Few (ts : List (List ℕ)) : Type 0 where
  pub few-trees : length ts ≤ 1024
  pub few-splits : (t : List ℕ) → Mem t ts → length t ≤ 62

one_sided-most : (a b : List ℕ) → one_sided a b ≤ length a
unfolding one_sided lacking
one_sided-most a b = keep-most (λ m. not (member m b)) a

pub doubled-few : (a b : List ℕ) → length a ≤ 62 → length b ≤ 62 → doubled a b ≤ 124
unfolding doubled
doubled-few a b p q = omega (arith, one_sided-most a b, one_sided-most b a)

flatten-map : {A B : Type 0} (f : A → List B) (l : List A) → flatten (map f l) ≡ flat_map f l
unfolding flatten flat_map
flatten-map f [] = refl
flatten-map f (x ∷ l) = ap (λ r. f x ++ r) (flatten-map f l)

module _ (ts : List (List ℕ)) (few : Few ts) where
  abbrev rows : List (List ℕ)
  rows = map (λ t. map (doubled t) ts) ts

  abbrev square : Square
  square = record { trees = length ts; values = matrix ts }

  row-values : (vs : List ℕ) → Mem vs rows → (v : ℕ) → Mem v vs → v ≤ 124
  row-values vs m v k =
      let a = map-mem (λ t. map (doubled t) ts) ts vs m in
      go a.0 a.1 a.2
    where
      go : (t : List ℕ) → Mem t ts → vs ≡ map (doubled t) ts → v ≤ 124
      go t h e = let b = map-mem (doubled t) ts v (rw e at k) in omega (arith, b.2, doubled-few t b.0 (few.few-splits t h) (few.few-splits b.0 b.1))

  row-length : (vs : List ℕ) → Mem vs rows → length vs ≡ length ts
  row-length vs m = let a = map-mem (λ t. map (doubled t) ts) ts vs m in ap length a.2 ∙ length-map ts (doubled a.0)

  trees-writable : Writable rows
  trees-writable =
      let n = length-map ts (λ t. map (doubled t) ts) in
      record {
        few-rows = omega (arith, few.few-trees);
        square = λ vs m. row-length vs m ∙ sym n;
        small = λ vs m v k. omega (arith, row-values vs m v k);
      }

  -- "What we write reads back as the same matrix"
  pub trees-laid : square_in (phylip_text ts) ≡ some square
  unfolding phylip_text matrix
  trees-laid =
      square-reads-back rows trees-writable
      ∙ ap (λ (n : ℕ). some (record { trees = n; values = flatten rows })) (length-map ts (λ t. map (doubled t) ts))
      ∙ ap (λ (vs : List ℕ). some (record { trees = length ts; values = vs })) (flatten-map (λ t. map (doubled t) ts) ts)

  pub trees-even : Even square
  unfolding entry
  trees-even = record {
    diagonal = λ i h. rw (mul_comm (length ts) i) (matrix-diagonal ts i h);
    across = λ i j h k. rw (mul_comm (length ts) i, mul_comm (length ts) j) (matrix-sym ts i j h k);
  }

  pub trees-read-back : (room : ℕ) → length ts * length ts ≤ room → read_phylip_of (phylip_text ts) room ≡ gives square
  trees-read-back room h = (matrix-given-exactly (phylip_text ts) room square).1 ((laid-out-exactly (phylip_text ts) square).0 trees-laid, trees-even, h)

  pub trees-short : length (phylip_text ts) ≤ 5 + length ts * (11 + 4 * length ts)
  unfolding phylip_text
  trees-short =
      subst (λ (n : ℕ). length (phylip_text ts) ≤ 5 + n * (11 + 4 * n)) (length-map ts (λ t. map (doubled t) ts))
      (square-short rows trees-writable (λ vs m v k. omega (arith, row-values vs m v k)))

-- ---- a whole collection

good-few : (n : ℕ) (ns : List (List ℕ)) (l : List ℕ) → good_names n ns ≡ true → good_tree n l ≡ true → 4 ≤ n → n ≤ 64 → length l ≤ 62
good-few n ns l names good least most =
    let c = good-count n ns names in
    omega (arith, few-splits ns (shown (tree_of ns l)) l (omega arith) (written-tree-reads-back n ns l names good (omega arith) most))

-- what is given where there is room
room-given : {A : Type 0} (room : ℕ) (xs ys : List A) → if_room room xs ≡ gives ys → (ys ≡ xs) × (length xs ≤ room)
unfolding if_room
room-given room xs ys e = go (ltb room (length xs)) refl e
  where
    go : (b : Bool) → ltb room (length xs) ≡ b → (if b then refused 4 else gives xs) ≡ gives ys → (ys ≡ xs) × (length xs ≤ room)
    go true q r = let z : ◌≡◌ {A = ℕ} 0 1 = cc in absurd (omega arith)
    go false q r = (cc, ltb-false room (length xs) q)

module _ (h : Held) (w : Whole h) where
  pub whole-few : Few h.trees
  whole-few =
      let n = h.opening.numbers.taxa in
      let r = (good-opening h.opening w.opening-good).ranges in
      record {
        few-trees = omega (arith, w.trees-fit, r.most-trees);
        few-splits = λ t m. good-few n h.opening.names t (names-good h (facts-whole h w)) (every-at (good_tree n) h.trees w.trees-good t m) r.least-taxa r.most-taxa;
      }

  pub phylip-fits : (room : ℕ) → 5 + length h.trees * (11 + 4 * length h.trees) ≤ room → phylip_of h room ≡ gives (phylip_text h.trees)
  unfolding phylip_of if_room
  phylip-fits room l = if-false _ _ (le-ltb room (length (phylip_text h.trees)) (omega (arith, trees-short h.trees whole-few)))

  pub phylip-most : length (phylip_text h.trees) ≤ 4205573
  phylip-most =
      let t = whole-few.few-trees in
      let r : 11 + 4 * length h.trees ≤ 4107 = omega arith in
      let m : length h.trees * (11 + 4 * length h.trees) ≤ 1024 * 4107 = mul-le-mul t r in
      omega (arith, trees-short h.trees whole-few)

  -- "What we write reads back as the same matrix"
  pub phylip-reads-back : (room cells : ℕ) (f es : List ℕ) → phylip_of h room ≡ gives f → matrix_of h cells ≡ gives es
      → read_phylip_of f cells ≡ gives (record { trees = length h.trees; values = es })
  unfolding phylip_of matrix_of
  phylip-reads-back room cells f es p q =
      let a = room-given room (phylip_text h.trees) f p in
      let b = room-given cells (matrix h.trees) es q in
      rw (a.0, b.0) (trees-read-back h.trees whole-few cells (omega (arith, b.1, matrix-length h.trees)))

  pub phylip-refused-exactly : (room cells k : ℕ) (f : List ℕ) → phylip_of h room ≡ gives f → (read_phylip_of f cells ≡ refused k) ↔ ((k ≡ 4) × (cells < length h.trees * length h.trees))
  unfolding phylip_of
  phylip-refused-exactly room cells k f p =
      rw (room-given room (phylip_text h.trees) f p).0 ((λ e. forth e (less-or-not cells (length h.trees * length h.trees))), λ x. short x.1 ∙ ap refused (sym x.0))
    where
      short : cells < length h.trees * length h.trees → read_phylip_of (phylip_text h.trees) cells ≡ refused 4
      short l =
          let q : Square = record { trees = length h.trees; values = matrix h.trees } in
          (four-exactly (phylip_text h.trees) cells).1 (q, (laid-out-exactly (phylip_text h.trees) q).0 (trees-laid h.trees whole-few), trees-even h.trees whole-few, l)

      forth : read_phylip_of (phylip_text h.trees) cells ≡ refused k → (cells < length h.trees * length h.trees) ⊎ (length h.trees * length h.trees ≤ cells)
          → (k ≡ 4) × (cells < length h.trees * length h.trees)
      forth e (inl l) = let s = short l in (cc, l)
      forth e (inr l) = let s = trees-read-back h.trees whole-few cells l in let z : ◌≡◌ {A = ℕ} 0 1 = cc in absurd (omega arith)
