-- "A text is refused exactly when a listed fault holds", of what a collection answers to a whole text: 6 to 12 and 17.
--
--   on_text h s               the verdict of the collection h on the whole text s: that on a lane which was empty and took s
--   refused-exactly          it is the number k exactly when the fault k holds
--   accepted-exactly         and it gives branches exactly when no fault holds and they are those of the text's tree
--   refused-once             at most one fault holds
--   refused-numbers          its number is one of 6 to 12, or 17
--   refused-or-accepted      a fault holds, or none
--   accepted-unless-refused  accepted exactly when no fault holds
-- and of the call, a text and the semicolon that ends it being fed in one piece to an empty lane:
--   fed-refused-exactly      feeding refuses with k exactly when the fault k holds
--   fed-accepted-exactly     it accepts exactly when no fault holds, and the tree's number is that of the trees before
--   fed-refused-after, fed-accepted-after    what is held then: nothing new; exactly the splits of the text's tree and their lengths. The lane is empty either way
--   fed-taken                the text and the semicolon are taken
use Rattle.std.specs.Prelude.{ℕ, suc, ◌+◌, ◌≤◌, ◌<◌, ◌≡◌, refl, ◌⊎◌, ◌↔◌, Bool, true, List, [], ◌∷◌, ◌++◌, ltb, length, if◌then◌else◌}
use Rattle.std.proofs.Common.{arith, ap₂, ◌∙◌, inl, inr, ltb-true, ltb-false, lt-ltb, le-ltb, eqb-true, eq-eqb, ne_eqb}
use Rattle.std.proofs.Math.Path.{ap, sym, subst}
use Rattle.std.proofs.Math.Bool.{false}
use Rattle.std.proofs.Math.Dec.{eqb}
use Rattle.std.proofs.lemmas.Bool.{eqb-false}
use Rattle.trees.specs.Plain.{Answer, refused, gives}
use Rattle.trees.specs.Text.{semicolon, open_after, has_end, before_end}
use Rattle.trees.specs.Tree.{Nodes, children}
use Rattle.trees.specs.Splits.{clusters, splits_of}
use Rattle.trees.specs.Verdict.{Branches, judged_with}
use Rattle.trees.specs.Consensus.{recorded}
use Rattle.trees.specs.Held.{Held, holding, overrun, most_text, lane_of, with_lane, with_tree, open_in, longer, new_splits, room_for, with_room, verdict, Progress, accepted, finished, recording, finishing, feeding}
use Rattle.theorems.specs.ListLaws.{if-true, if-false}
use Rattle.theorems.specs.RisingLaws.{Rising}
use Rattle.theorems.specs.SplitLaws.{counted-rising}
use Rattle.theorems.specs.RecordedLaws.{recorded_more}
use Rattle.theorems.specs.FaultLaws.{fault-numbers-only}
use Rattle.theorems.specs.LengthVerdictLaws.{branches_of, WithRefusal, with-refuses, with-accepts}
use Rattle.theorems.specs.QuoteLaws.{before-end, has_end_lem}
use Rattle.theorems.specs.FeedingLaws.{feeding_by, feeding-by}
use Rattle.theorems.specs.Refusing.{Faultless, Inexact, TreesFull, splits_with, Refuses, too_long, no-form, leaf-fault, inexact, no-tree-room, no-split-room, Accepts}

abbrev pub on_text : Held → List ℕ → Answer Branches
on_text h s = verdict h (longer (holding []) s)

never_both : {A : Type 0} {k : ℕ} {a : A} → refused k ≡ gives a → ⊥
never_both e = let z : ◌≡◌ {A = ℕ} 0 1 = cc in omega arith

-- ---- room for a tree

pub splits-rising : (ns : List (List ℕ)) (t : Nodes) → Rising (splits_of ns t)
unfolding splits_of
splits-rising ns t = counted-rising (length ns) (clusters ns (children t))

module _ (h : Held) (t : Nodes) where
  abbrev of_tree : List ℕ
  of_tree = splits_of h.opening.names t

  together : length (recorded h.trees) + length (new_splits h of_tree) ≡ splits_with h t
  unfolding new_splits
  together = sym (recorded_more h.trees of_tree (splits-rising h.opening.names t))

  -- and with the lengths that are kept
  abbrev with_theirs : Branches
  with_theirs = branches_of h.opening.numbers.kept h.opening.names t

  over : ℕ → Answer Branches
  over k = if ltb h.opening.numbers.split_room k then refused 12 else gives with_theirs

  room-step : room_for h with_theirs ≡ if eqb (length h.trees) h.opening.numbers.tree_room then refused 11 else over (splits_with h t)
  unfolding room_for over
  room-step = ap (λ (k : ℕ). if eqb (length h.trees) h.opening.numbers.tree_room then refused 11 else over k) together

  full-room : TreesFull h → room_for h with_theirs ≡ refused 11
  full-room e = room-step ∙ if-true (refused 11) (over (splits_with h t)) (eq-eqb (length h.trees) h.opening.numbers.tree_room e)

  free-room : (TreesFull h → ⊥) → room_for h with_theirs ≡ over (splits_with h t)
  free-room f = room-step ∙ if-false (refused 11) (over (splits_with h t)) (ne_eqb (length h.trees) h.opening.numbers.tree_room f)

  over-room : h.opening.numbers.split_room < splits_with h t → over (splits_with h t) ≡ refused 12
  unfolding over
  over-room l = if-true (refused 12) (gives with_theirs) (lt-ltb h.opening.numbers.split_room (splits_with h t) l)

  within-room : splits_with h t ≤ h.opening.numbers.split_room → over (splits_with h t) ≡ gives with_theirs
  unfolding over
  within-room l = if-false (refused 12) (gives with_theirs) (le-ltb h.opening.numbers.split_room (splits_with h t) l)

-- ---- a fault that holds is the verdict

module _ (h : Held) (s : List ℕ) where
  long-text : most_text < length s → on_text h s ≡ refused 6
  unfolding longer verdict
  long-text l = ap (verdict h) (if-true (overrun (open_after false s)) (holding s) (lt-ltb most_text (length s) l))

  short-text : length s ≤ most_text → on_text h s ≡ with_room h (judged_with h.opening.numbers.kept h.opening.names s)
  unfolding longer verdict
  short-text l = ap (verdict h) (if-false (overrun (open_after false s)) (holding s) (le-ltb most_text (length s) l))

  refused-text : length s ≤ most_text → (k : ℕ) → WithRefusal h.opening.numbers.kept h.opening.names s k → on_text h s ≡ refused k
  unfolding with_room
  refused-text l k r = short-text l ∙ ap (with_room h) ((with-refuses h.opening.numbers.kept h.opening.names s k).1 r)

  faultless-text : (t : Nodes) → Faultless h s t → (Inexact h.opening.numbers.kept t → ⊥) → on_text h s ≡ room_for h (with_theirs h t)
  unfolding with_room
  faultless-text t f n =
      short-text f.short ∙ ap (with_room h) ((with-accepts h.opening.numbers.kept h.opening.names s (with_theirs h t)).1 (t, f.tree, f.leaves-fine, n, refl))

  refuses-answer : {k : ℕ} → Refuses h s k → on_text h s ≡ refused k
  refuses-answer (too_long l) = long-text l
  refuses-answer (no-form l f) = refused-text l 7 (inl (inl (refl, f)))
  refuses-answer (leaf-fault {t} {k} l i f) = refused-text l k (inl (inr (t, i, f)))
  refuses-answer (inexact {t} f o) = refused-text f.short 17 (inr (refl, (t, f.tree, f.leaves-fine, o)))
  refuses-answer (no-tree-room {t} f n e) = faultless-text t f n ∙ full-room h t e
  refuses-answer (no-split-room {t} f n e l) = faultless-text t f n ∙ free-room h t e ∙ over-room h t l

  accepts-answer : {b : Branches} → Accepts h s b → on_text h s ≡ gives b
  accepts-answer a =
      faultless-text a.tree a.faultless a.in-range ∙ free-room h a.tree a.tree-room ∙ within-room h a.tree a.split-room
      ∙ sym (λ i. gives (record { splits = a.splits i; lengths = a.lengths i }))

  -- ---- the verdict is a fault that holds, or none does

  abbrev Answers : Answer Branches → Type 0
  Answers (refused k) = Refuses h s k
  Answers (gives b) = Accepts h s b

  room-answers : (t : Nodes) → Faultless h s t → (Inexact h.opening.numbers.kept t → ⊥) → Answers (room_for h (with_theirs h t))
  room-answers t f x = full (eqb (length h.trees) h.opening.numbers.tree_room) refl
    where
      free : (TreesFull h → ⊥) → (b : Bool) → ltb h.opening.numbers.split_room (splits_with h t) ≡ b → Answers (over h t (splits_with h t))
      free n true e = let l = ltb-true _ _ e in subst Answers (sym (over-room h t l)) (no-split-room f x n l)
      free n false e = let l = ltb-false _ _ e in subst Answers (sym (within-room h t l)) (record { tree = t; faultless = f; in-range = x; tree-room = n; split-room = l; splits = refl; lengths = refl })

      full : (b : Bool) → eqb (length h.trees) h.opening.numbers.tree_room ≡ b → Answers (room_for h (with_theirs h t))
      full true e = let q = eqb-true _ _ e in subst Answers (sym (full-room h t q)) (no-tree-room f x q)
      full false e = let n = eqb-false _ _ e in subst Answers (sym (free-room h t n)) (free n (ltb h.opening.numbers.split_room (splits_with h t)) refl)

  judged-answers : length s ≤ most_text → (a : Answer Branches) → judged_with h.opening.numbers.kept h.opening.names s ≡ a → Answers (with_room h a)
  unfolding with_room
  judged-answers l (refused k) e = go ((with-refuses h.opening.numbers.kept h.opening.names s k).0 e)
    where
      go : WithRefusal h.opening.numbers.kept h.opening.names s k → Refuses h s k
      go (inl (inl r)) = subst (Refuses h s) (sym r.0) (no-form l r.1)
      go (inl (inr r)) = leaf-fault l r.1 r.2
      go (inr r) = subst (Refuses h s) (sym r.0) (inexact (record { short = l; tree = r.1.1; leaves-fine = r.1.2 }) r.1.3)
  judged-answers l (gives b) e =
      let r = (with-accepts h.opening.numbers.kept h.opening.names s b).0 e in
      subst (λ (x : Branches). Answers (room_for h x)) (sym r.4) (room-answers r.0 (record { short = l; tree = r.1; leaves-fine = r.2 }) r.3)

  text-answers : Answers (on_text h s)
  text-answers = go (ltb most_text (length s)) refl
    where
      go : (b : Bool) → ltb most_text (length s) ≡ b → Answers (on_text h s)
      go true e = let l = ltb-true most_text (length s) e in subst Answers (sym (long-text l)) (too_long l)
      go false e = let l = ltb-false most_text (length s) e in subst Answers (sym (short-text l)) (judged-answers l (judged_with h.opening.numbers.kept h.opening.names s) refl)

  -- ---- exactly

  pub refused-exactly : (k : ℕ) → (on_text h s ≡ refused k) ↔ Refuses h s k
  refused-exactly k = (λ e. subst Answers e text-answers, λ r. refuses-answer r)

  pub accepted-exactly : (b : Branches) → (on_text h s ≡ gives b) ↔ Accepts h s b
  accepted-exactly b = (λ e. subst Answers e text-answers, λ a. accepts-answer a)

  pub refused-or-accepted : ((k : ℕ) × Refuses h s k) ⊎ ((b : Branches) × Accepts h s b)
  refused-or-accepted = go (on_text h s) text-answers
    where
      go : (a : Answer Branches) → Answers a → ((k : ℕ) × Refuses h s k) ⊎ ((b : Branches) × Accepts h s b)
      go (refused k) r = inl (k, r)
      go (gives b) a = inr (b, a)

  same_number : (j k : ℕ) → ◌≡◌ {A = Answer Branches} (refused j) (refused k) → j ≡ k
  same_number j k e = cc

  pub refused-once : (j k : ℕ) → Refuses h s j → Refuses h s k → j ≡ k
  refused-once j k p q = same_number j k (sym (refuses-answer p) ∙ refuses-answer q)

  not-both : (k : ℕ) (b : Branches) → Refuses h s k → Accepts h s b → ⊥
  not-both k b r a = never_both (sym (refuses-answer r) ∙ accepts-answer a)

  pub accepted-unless-refused : ((b : Branches) × Accepts h s b) ↔ ((k : ℕ) → Refuses h s k → ⊥)
  accepted-unless-refused = (λ a k r. not-both k a.0 r a.1, λ f. go f refused-or-accepted)
    where
      go : ((k : ℕ) → Refuses h s k → ⊥) → ((k : ℕ) × Refuses h s k) ⊎ ((b : Branches) × Accepts h s b) → (b : Branches) × Accepts h s b
      go f (inl r) = absurd (f r.0 r.1)
      go f (inr a) = a

  pub refused-numbers : {k : ℕ} → Refuses h s k → ((6 ≤ k) × (k ≤ 12)) ⊎ (k ≡ 17)
  refused-numbers (too_long l) = inl (omega arith, omega arith)
  refused-numbers (no-form l f) = inl (omega arith, omega arith)
  refused-numbers (leaf-fault l i f) = let n = fault-numbers-only h.opening.names f in inl (omega arith, omega arith)
  refused-numbers (inexact f o) = inr refl
  refused-numbers (no-tree-room f n e) = inl (omega arith, omega arith)
  refused-numbers (no-split-room f n e l) = inl (omega arith, omega arith)

-- ---- the call: a text and its semicolon

finished-refused : (h : Held) (v : Answer Branches) (k : ℕ) → (finished h v ≡ refused k) ↔ (v ≡ refused k)
unfolding finished
finished-refused h (refused j) k = (λ e. let q : j ≡ k = cc in ap refused q, λ e. ap (finished h) e)
finished-refused h (gives b) k = (λ e. cc, λ e. cc)

-- a whole text: none ends in it, and no quotes are open where its semicolon stands
module _ (h : Held) (l : ℕ) (lane : l < h.opening.numbers.lanes) (empty : lane_of h l ≡ holding []) (s : List ℕ) (one : has_end false s ≡ false) (even : open_after false s ≡ false) where
  abbrev piece : List ℕ
  piece = s ++ semicolon ∷ []

  empty-closed : open_in (lane_of h l) ≡ false
  unfolding open_in open_after
  empty-closed = ap open_in empty

  fed-finishes : feeding h l piece ≡ finishing h l (suc (length s)) (on_text h s)
  fed-finishes =
      feeding-by h l piece
      ∙ ap₂ (λ b c. feeding_by b c h l piece) (lt-ltb l h.opening.numbers.lanes lane) (ap (λ (q : Bool). has_end q piece) empty-closed ∙ has_end_lem [] false s even)
      ∙ ap₂ (λ x w. finishing h l (suc (length w)) (verdict h (longer x w))) empty (ap (λ (q : Bool). before_end q piece) empty-closed ∙ before-end [] false s one even)

  pub fed-taken : (feeding h l piece).taken ≡ suc (length s)
  unfolding finishing
  fed-taken = ap (λ f. f.taken) fed-finishes

  fed-answer : (feeding h l piece).answer ≡ finished h (on_text h s)
  unfolding finishing
  fed-answer = ap (λ f. f.answer) fed-finishes

  fed-after : (feeding h l piece).after ≡ with_lane (recording h (on_text h s)) l (holding [])
  unfolding finishing
  fed-after = ap (λ f. f.after) fed-finishes

  pub fed-refused-exactly : (k : ℕ) → ((feeding h l piece).answer ≡ refused k) ↔ Refuses h s k
  fed-refused-exactly k = (
    λ e. (refused-exactly h s k).0 ((finished-refused h (on_text h s) k).0 (sym fed-answer ∙ e)),
    λ r. fed-answer ∙ (finished-refused h (on_text h s) k).1 ((refused-exactly h s k).1 r),
  )

  accepted-answer : {b : Branches} → Accepts h s b → (feeding h l piece).answer ≡ gives (accepted (length h.trees))
  unfolding finished
  accepted-answer a = fed-answer ∙ ap (finished h) (accepts-answer h s a)

  pub fed-accepted-exactly : (i : ℕ) → ((feeding h l piece).answer ≡ gives (accepted i)) ↔ ((i ≡ length h.trees) × ((k : ℕ) → Refuses h s k → ⊥))
  fed-accepted-exactly i = (
    λ e. (number e (refused-or-accepted h s), λ k r. never_both (sym ((fed-refused-exactly k).1 r) ∙ e)),
    λ p. accepted-answer ((accepted-unless-refused h s).1 p.1).1 ∙ ap (λ (x : ℕ). gives (accepted x)) (sym p.0),
  )
    where
      number : (feeding h l piece).answer ≡ gives (accepted i) → ((k : ℕ) × Refuses h s k) ⊎ ((b : Branches) × Accepts h s b) → i ≡ length h.trees
      number e (inl r) = absurd (never_both (sym ((fed-refused-exactly r.0).1 r.1) ∙ e))
      number e (inr a) = let q : ◌≡◌ {A = Answer Progress} (gives (accepted i)) (gives (accepted (length h.trees))) = sym e ∙ accepted-answer a.1 in cc

  pub fed-refused-after : {k : ℕ} → Refuses h s k → (feeding h l piece).after ≡ with_lane h l (holding [])
  unfolding recording
  fed-refused-after r = fed-after ∙ ap (λ v. with_lane (recording h v) l (holding [])) (refuses-answer h s r)

  pub fed-accepted-after : {b : Branches} → Accepts h s b → (feeding h l piece).after ≡ with_lane (with_tree h b) l (holding [])
  unfolding recording
  fed-accepted-after a = fed-after ∙ ap (λ v. with_lane (recording h v) l (holding [])) (accepts-answer h s a)
