-- The promises of inner functions that are no equations leave one outcome too; those that change a store stand in StoreOutcomes. Each
-- theorem is over the function's own `Post`; where it needs what the `requires` say, over its `Pre` as well. Assumes nothing.
--
--   find-slot-once                            where a mask goes in a rising list
--   build-index-once                          the index of the names, in every entry that is used
--   shorten-once                              the short lists of the trees, in every place that is used
--   write-eight-once                          eight rows of distances
--   judge-once, judge-shape-once              the verdict on a text, and the list of records
--   read-shape-once                           the shape of a text: whether it is a tree, how many leaves and inner nodes it has, their spans and labels
--   judge-lengths-once, judge-text-once       the verdict where lengths are kept, and where they may be; both lists
--   write-tree-once                           a tree written
use Rattle.std.specs.Prelude.{ℕ, ◌+◌, ◌*◌, ◌/◌, ◌%◌, ◌≤◌, ◌<◌, min, ◌≡◌, refl, List, [], ◌∷◌, ◌++◌, get_or, take, drop, Result, Ok, Err, Option, None, Some}
use Rattle.std.proofs.Common.{arith, subst, ◌∙◌, ⊎_elim, length-take-le, get_or-take}
use Rattle.std.proofs.Math.Path.{sym, ap}
use Rattle.std.proofs.Math.ListN.{length, get_or-append}
use Rattle.std.proofs.lemmas.List.Edits.{sets}
use Rattle.std.proofs.lemmas.List.{get_or_at}
use Rattle.trees.specs.Plain.{Answer, refused, gives}
use Rattle.trees.specs.Tree.{Nodes, leaves}
use Rattle.trees.specs.Opening.{Opening}
use Rattle.trees.specs.Verdict.{Branches, judged_with}
use Rattle.theorems.specs.ListLaws.{Mem, less-or-not}
use Rattle.theorems.specs.RisingLaws.{Rising}
use Rattle.theorems.specs.GrammarLaws.{reading-sound, no-tree}
use Rattle.answers.specs.Answers.{refusal_number}
use Rattle.answers.specs.AnswerLaws.{gives≢refused}
use Rattle.records.specs.Records.{with_records, put_in}
use Rattle.records.specs.RecordLaws.{put-length}
use Rattle.records.specs.Slot.{SlotFound}
use Rattle.records.specs.SlotLaws.{insert-taken, mem-at}
use Rattle.head.specs.Index.{keys}
use Rattle.head.specs.Head.{names_at}
use Rattle.layout.specs.Store.{trees_held_at}
use Rattle.distances.specs.Short.{rows_in}
use Rattle.newick.specs.Words.{with_words}
use Rattle.newick.specs.Judge.{JudgedAs, JudgedWith}
use Rattle.newick.specs.Shape.{spans, ShapeRead}
use Rattle.newick.specs.Running.{labels_at}
use Rattle.newick.specs.Leaves.{most_leaves}
use Rattle.newick.specs.Sound.{span_room}
use Rattle.newick.specs.ShapingLaws.{shape-itself}
use Rattle.newick.specs.declared.shape.Mark.{Mark}
use Rattle.feeding.specs.Judging.{JudgedIn}
use Rattle.writer.specs.Text.{Wrote}
use Rattle.records.proofs.find_slot.Reads as find-slot
use Rattle.head.proofs.build_index.Reads as build-index
use Rattle.distances.proofs.shorten.Reads as shorten
use Rattle.distances.proofs.write_eight.Reads as write-eight
use Rattle.newick.proofs.judge.Reads as judge
use Rattle.newick.proofs.judge_shape.Reads as judge-shape
use Rattle.newick.proofs.read_shape.Reads as read-shape
use Rattle.newick.proofs.judge_lengths.Reads as judge-lengths
use Rattle.feeding.proofs.judge_text.Reads as judge-text
use Rattle.writer.proofs.write_tree.Reads as write-tree
use Rattle.promises.specs.Once.{Once, OnceIf, arg1, arg2, arg3, arg4, arg5, arg6, arg9}
use Rattle.promises.specs.Calls.{refusal_in}
use Rattle.promises.specs.Outcomes.{refusal-one, value_or, both}
use Rattle.answers.specs.declared.Refusal.{Refusal}

-- ---- a rising list

put-here : (j m d : ℕ) (l : List ℕ) → j ≤ length l → get_or (put_in j (m ∷ []) l) j d ≡ m
unfolding put_in
put-here j m d l h = get_or_at (take j l) m (drop j l) d j (length-take-le j l h)

-- before place j nothing has changed
put-before : (i j : ℕ) (v l : List ℕ) (d : ℕ) → i < j → j ≤ length l → get_or (put_in j v l) i d ≡ get_or l i d
unfolding put_in
put-before i j v l d h g =
    get_or-append (take j l) (v ++ drop j l) d i (omega (arith, length-take-le j l g)) ∙ get_or-take j l i d h

-- what goes to a free place is not in the list yet
free_new : (l : List ℕ) (m j : ℕ) → Rising l → SlotFound l m (Some j) → Mem m l → ⊥
unfolding SlotFound
free_new l m j r a h = omega (arith, put-length j (m ∷ []) l, ap length (sym a.1 ∙ insert-taken l m r h))

-- of two free places, the one behind is not behind the mask itself
free-before : (l : List ℕ) (m j k : ℕ) → Rising l → SlotFound l m (Some j) → SlotFound l m (Some k) → j < k → ⊥
unfolding SlotFound
free-before l m j k r a b h =
    let e = put-before j k (m ∷ []) l 0 h b.0 in
    let d = put-here j m 0 l a.0 in
    let c : get_or l j 0 ≡ m = sym e ∙ ap (λ (w : List ℕ). get_or w j 0) (sym b.1 ∙ a.1) ∙ d in
    free_new l m j r a (subst (λ (n : ℕ). Mem n l) c (mem-at l j (omega (arith, b.0))))

slot-both : (l : List ℕ) (m : ℕ) (q r : Option ℕ) → Rising l → SlotFound l m q → SlotFound l m r → q ≡ r
unfolding SlotFound
slot-both l m (Some j) (Some k) h a b =
    ap Some
    (⊎_elim
    (λ n. absurd (free-before l m j k h a b n))
    (λ n. ⊎_elim (λ o. absurd (free-before l m k j h b a o)) (λ o. omega arith) (less-or-not k j))
    (less-or-not j k))
slot-both l m (Some j) None h a b = absurd (free_new l m j h a b)
slot-both l m None (Some k) h a b = absurd (free_new l m k h b a)
slot-both l m None None h a b = refl

pub find-slot-once : OnceIf find-slot.Pre find-slot.Post (λ x q r y z. q ≡ r)
find-slot-once k x q r y z p a b = slot-both _ _ q r p.1 a b

-- ---- names

pub build-index-once : Once build-index.Post
    (λ x q r y z. ((i : ℕ) → i < keys → get_or (arg2 y).now i 0 ≡ get_or (arg2 z).now i 0)
    × ((i : ℕ) → i < length (names_at (arg1 x).now) → get_or (arg3 y).now i 0 ≡ get_or (arg3 z).now i 0))
build-index-once k x q r y z a b = (λ i h. both (a.firsts i h) (b.firsts i h), λ i h. both (a.nexts i h) (b.nexts i h))

-- ---- the trees' short lists

pub shorten-once : Once shorten.Post
    (λ x q r y z. (i : ℕ) → i < arg2 x → (get_or (arg4 y).now i 0 ≡ get_or (arg4 z).now i 0)
    × (rows_in (arg3 y).now (arg4 y).now i ≡ rows_in (arg3 z).now (arg4 z).now i))
shorten-once k x q r y z a b i h = (both (a.sized i h) (b.sized i h), both (a.listed i h) (b.listed i h))

pub write-eight-once : Once write-eight.Post
    (λ x q r y z. (a j : ℕ) → a / 8 ≡ (arg2 x).0 / 8 → a < trees_held_at (arg1 x).now → j < trees_held_at (arg1 x).now
    → get_or (arg5 y).now (1024 * (a % 8) + j) 0 ≡ get_or (arg5 z).now (1024 * (a % 8) + j) 0)
write-eight-once k x q r y z u v a j e h l = both (u.rows a j e h l) (v.rows a j e h l)

-- ---- a text read

judged-both : (o : Opening) (s : List ℕ) (q r : Result ℕ Refusal) (u v w : List ℕ) → JudgedAs o s q u v → JudgedAs o s r u w → (q ≡ r) × (v ≡ w)
unfolding JudgedAs refusal_in value_or
judged-both o s (Err j) (Err k) u v w x y = (ap Err (refusal-one j k (ap refusal_in (sym x.0 ∙ y.0))), both x.1 y.1)
judged-both o s (Err j) (Ok k) u v w x y = absurd (gives≢refused y.0 (refusal_number j) (sym y.1 ∙ x.0))
judged-both o s (Ok j) (Err k) u v w x y = absurd (gives≢refused x.0 (refusal_number k) (sym x.1 ∙ y.0))
judged-both o s (Ok j) (Ok k) u v w x y =
    let q : x.0 ≡ y.0 = ap (value_or []) (sym x.1 ∙ y.1) in
    (ap Ok (x.2 ∙ ap length q ∙ sym y.2), x.3 ∙ ap (λ (l : List ℕ). with_records o l u) q ∙ sym y.3)

pub judge-once : Once judge.Post (λ x q r y z. (q ≡ r) × ((arg5 y).now ≡ (arg5 z).now))
judge-once k x q r y z a b = judged-both _ _ q r _ _ _ a b

pub judge-shape-once : OnceIf judge-shape.Pre judge-shape.Post (λ x q r y z. (q ≡ r) × ((arg9 y).now ≡ (arg9 z).now))
judge-shape-once k x q r y z p a b = let s = p.1.1.0 in judged-both _ s.0 q r _ _ _ (a s.0 s.1) (b s.0 s.1)

-- ---- a shape read

-- two readings of one text
module _ (s : List ℕ) (q r : Mark) (tokens nodes t u v w : List ℕ) (a : ShapeRead s q tokens nodes t u) (b : ShapeRead s r tokens nodes v w) where
  fault-both : length s < q.at → length s < r.at
  fault-both h = ⊎_elim (λ g. g) (λ g. let x = b.good g in absurd ((no-tree s).0 (a.fault h) x.0 (reading-sound s x.0 x.1.reads))) (less-or-not (length s) r.at)

  shape-both : q.at ≤ length s → r.at ≤ length s → (q.leaves ≡ r.leaves) × (q.inner ≡ r.inner) × (u ≡ w)
  shape-both h g =
      let x = a.good h in
      let y = b.good g in
      let c = x.1.reads in
      let d = y.1.reads in
      let e : x.0 ≡ y.0 = cc in (
        x.1.leaved ∙ ap (λ (n : Nodes). length (leaves n)) e ∙ sym y.1.leaved,
        omega (arith, x.1.nested, y.1.nested, ap (λ (n : Nodes). length (spans 0 n)) e),
        x.1.spanned ∙ ap (λ (n : Nodes). sets nodes 0 (spans 0 n)) e ∙ sym y.1.spanned,
      )

  labels-both : q.at ≤ length s → r.at ≤ length s → length tokens ≡ 2 * most_leaves → length nodes ≡ span_room
      → (j : ℕ) → j ≤ min q.leaves most_leaves → labels_at s t j ≡ labels_at s v j
  labels-both h g m n j l =
      let x = shape-itself s q tokens nodes t u a h m n in
      let y = shape-itself s r tokens nodes v w b g m n in
      let c = x.reads in
      let d = y.reads in
      let e : x.tree ≡ y.tree = cc in
      x.first j l ∙ ap (λ (o : Nodes). take j (leaves o)) e ∙ sym (y.first j (omega (arith, (shape-both h g).0)))

pub read-shape-once : Once read-shape.Post
    (λ x q r y z. (length (arg1 x).now < q.at → length (arg1 x).now < r.at)
    × (q.at ≤ length (arg1 x).now → r.at ≤ length (arg1 x).now
    → ((q.leaves ≡ r.leaves) × (q.inner ≡ r.inner) × ((arg3 y).now ≡ (arg3 z).now))
    × (length (arg2 x).now ≡ 2 * most_leaves → length (arg3 x).now ≡ span_room
    → (j : ℕ) → j ≤ min q.leaves most_leaves → labels_at (arg1 x).now (arg2 y).now j ≡ labels_at (arg1 x).now (arg2 z).now j)))
read-shape-once k x q r y z a b = (fault-both _ q r _ _ _ _ _ _ a b, λ h g. (shape-both _ q r _ _ _ _ _ _ a b h g, labels-both _ q r _ _ _ _ _ _ a b h g))

-- a text with its lengths, of which the verdict is j
module _ (o : Opening) (j : Answer Branches) (u v : List ℕ) where
  abbrev Given : Result ℕ Refusal → List ℕ → List ℕ → Type 0
  Given (Err r) t w = (j ≡ refused (refusal_number r)) × (t ≡ u) × (w ≡ v)
  Given (Ok k) t w = (b : Branches) × (j ≡ gives b) × (k ≡ length b.splits) × (t ≡ with_records o b.splits u) × (w ≡ with_words b.lengths v)

  given_both : (q r : Result ℕ Refusal) (t w x z : List ℕ) → Given q t w → Given r x z → (q ≡ r) × (t ≡ x) × (w ≡ z)
  unfolding refusal_in value_or
  given_both (Err m) (Err n) t w x z a b = (ap Err (refusal-one m n (ap refusal_in (sym a.0 ∙ b.0))), both a.1 b.1, both a.2 b.2)
  given_both (Err m) (Ok n) t w x z a b = absurd (gives≢refused b.0 (refusal_number m) (sym b.1 ∙ a.0))
  given_both (Ok m) (Err n) t w x z a b = absurd (gives≢refused a.0 (refusal_number n) (sym a.1 ∙ b.0))
  given_both (Ok m) (Ok n) t w x z a b =
      let e : a.0 ≡ b.0 = ap (value_or a.0) (sym a.1 ∙ b.1) in (
        ap Ok (a.2 ∙ ap (λ (c : Branches). length c.splits) e ∙ sym b.2),
        a.3 ∙ ap (λ (c : Branches). with_records o c.splits u) e ∙ sym b.3,
        a.4 ∙ ap (λ (c : Branches). with_words c.lengths v) e ∙ sym b.4,
      )

module _ (o : Opening) (s u v t w : List ℕ) where
  with-given : (q : Result ℕ Refusal) → JudgedWith o s q u v t w → Given o (judged_with 1 o.names s) u v q t w
  unfolding JudgedWith
  with-given (Err r) a = a
  with-given (Ok k) a = a

  in-given : (q : Result ℕ Refusal) → JudgedIn o s q u v t w → Given o (judged_with o.numbers.kept o.names s) u v q t w
  unfolding JudgedIn
  in-given (Err r) a = a
  in-given (Ok k) a = a

pub judge-lengths-once : Once judge-lengths.Post (λ x q r y z. (q ≡ r) × ((arg5 y).now ≡ (arg5 z).now) × ((arg6 y).now ≡ (arg6 z).now))
judge-lengths-once k x q r y z a b = given_both _ _ _ _ q r _ _ _ _ (with-given _ _ _ _ _ _ q a) (with-given _ _ _ _ _ _ r b)

pub judge-text-once : Once judge-text.Post (λ x q r y z. (q ≡ r) × ((arg5 y).now ≡ (arg5 z).now) × ((arg6 y).now ≡ (arg6 z).now))
judge-text-once k x q r y z a b = given_both _ _ _ _ q r _ _ _ _ (in-given _ _ _ _ _ _ q a) (in-given _ _ _ _ _ _ r b)

-- ---- a tree written

wrote-both : (t before : List ℕ) (q r : Option ℕ) (a b : List ℕ) → Wrote t before q a → Wrote t before r b → (q ≡ r) × (a ≡ b)
unfolding Wrote
wrote-both t before (Some n) (Some m) a b x y =
    let e : n ≡ m = both x.0 y.0 in
    (ap Some e, x.2 ∙ ap (λ (k : ℕ). t ++ drop k before) e ∙ sym y.2)
wrote-both t before (Some n) None a b x y = absurd (omega (arith, x.0, x.1, y.0))
wrote-both t before None (Some m) a b x y = absurd (omega (arith, y.0, y.1, x.0))
wrote-both t before None None a b x y = (refl, both x.1 y.1)

pub write-tree-once : Once write-tree.Post (λ x q r y z. (q ≡ r) × ((arg4 y).now ≡ (arg4 z).now))
write-tree-once k x q r y z a b = wrote-both _ _ q r _ _ a b
