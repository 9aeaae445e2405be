-- Feeding text after text. Assumes nothing.
--
--   none-front, none-back     no tree is accepted in either of two runs of verdicts
--   small-answer       the number of a tree that is accepted is at most 1,024
--   Going ..           i texts are fed, up to the place `at` of the piece; what is left of it decides the rest
--   going-none, going_more     no text yet, and one more
--   going-lane, going-index, going-part     what feeding the rest asks
--   taken-fits         a text that was taken ends in the piece
--   gone-holds, gone-verdicts, gone-outside     and behind the last text
--   batching-length    there are as many verdicts as texts
--   batched-length     the verdicts' buffer is as long as before
--   batch-refused      what a refusal promises
--   batch-no-lane, batch-short, batch-done     what each return promises, of whole bytes
use Rattle.std.specs.Prelude.{ℕ, zero, suc, ◌+◌, ◌-◌, ◌≤◌, ◌<◌, ◌≡◌, Bool, ltb, length, get_or, set, take, if◌then◌else◌, Ok, Err}
use Rattle.std.proofs.Math.Numerals.{add-one}
use Rattle.std.proofs.Common.{arith, ap₂, subst, ◌∙◌, length-append, length-drop, take-append-drop, take_all, drop-set-lt, drop-drop}
use Rattle.std.proofs.Math.Path.{refl, sym, ap}
use Rattle.std.proofs.Math.Bool.{true, false}
use mathlib.Core.List.{List, [], ◌∷◌, ◌++◌, append_assoc, append-nil}
use Rattle.std.proofs.Math.ListN.{drop, length-set}
use Rattle.std.proofs.Math.Seq.{take-suc-set}
use borrow.Author.Tests.{lt-ltb, le-ltb, ltb-true}
use Rattle.theorems.specs.ListLaws.{and_left, and_right}
use Rattle.trees.specs.Plain.{every, Answer, refused, gives}
use Rattle.trees.specs.Opening.{Opening, store_size}
use Rattle.trees.specs.Verdict.{Branches}
use Rattle.trees.specs.Held.{Held, more_wanted, accepted, lane_of, open_in, longer, verdict, finished, finishing, feeding}
use Rattle.trees.specs.Held as held
use Rattle.trees.specs.Batch.{verdict_number, is_refusal, none_accepted, Batched, with_verdict, batching, batch}
use Rattle.theorems.specs.FeedingLaws.{ends_at, last_part, feeding_by, feeding-by}
use Rattle.theorems.specs.OwnLaneLaws.{feeding-opening}
use Rattle.text.specs.EndLaws.{end-inside, has-text, lacks-text}
use Rattle.answers.specs.declared.Refusal.{Refusal}
use Rattle.answers.specs.declared.Refusal.TheVariants as why
use Rattle.answers.specs.declared.Fed.{Fed}
use Rattle.answers.specs.Answers.{refusal_number, refusing, number_given, progress_given, Small}
use Rattle.head.specs.Head.{numbers_at, names_at, opening_at}
use Rattle.head.specs.Index.{Indexed}
use Rattle.layout.specs.Store.{size_at, held_at, held_in}
use Rattle.layout.specs.WholeStore.{whole_at}
use Rattle.layout.specs.WholeFacts.{whole-at-facts}
use Rattle.store.specs.RecordedAtLaws.{trees-length}
use Rattle.store.specs.HeldWholeLaws.{held-numbers, texts-length, opening-facts}
use Rattle.store.specs.Lent.{Holds}
use Rattle.store.specs.LentLaws.{when_whole}
use Rattle.feeding.specs.Feeding.{batch_of, is_accepted, SameOutside, BatchedAs}
use Rattle.feeding.specs.Texts.{FedWell, texts_at}
use Rattle.feeding.specs.CutLaws.{LaneThere, fed-open, first_taken, one-fed}
use Rattle.feeding.specs.HoldLaws.{size-held}

-- ---- the numbers of accepted trees

trees-few : (s : List ℕ) → whole_at s ≡ true → length (held_at s).trees ≤ 1024
unfolding opening_at
trees-few s w = omega (arith, trees-length s, (whole-at-facts s w).head.trees-fit, (opening-facts s w).ranges.most-trees)

pub small-answer : (s : List ℕ) (l : ℕ) (p : List ℕ) → whole_at s ≡ true → Small (feeding (held_at s) l p).answer
unfolding finishing
small-answer s l p w =
    subst (λ (f : held.Fed). Small f.answer) (sym (feeding-by (held_at s) l p)) (go (ltb l (held_at s).opening.numbers.lanes) (ends_at (held_at s) l p))
  where
    done : (v : Answer Branches) → Small (finished (held_at s) v)
    done (refused k) = unfold Small finished in tt
    done (gives t) = unfold Small finished in trees-few s w

    go : (b c : Bool) → Small (feeding_by b c (held_at s) l p).answer
    go true true = done (verdict (held_at s) (longer (lane_of (held_at s) l) (last_part (held_at s) l p)))
    go true false = unfold Small in tt
    go false c = unfold Small in tt

-- ---- texts of which none is accepted

refusal-number : (a : Answer held.Progress) → is_refusal (verdict_number a) ≡ true → is_accepted a ≡ false
unfolding verdict_number is_accepted
refusal-number (refused k) e = refl
refusal-number (gives more_wanted) e = refl
refusal-number (gives (accepted t)) e = absurd (omega (arith, ltb-true (256 + t) 256 e))

pub none-front : (x y : List ℕ) → none_accepted (x ++ y) ≡ true → none_accepted x ≡ true
unfolding none_accepted every
none-front [] y e = refl
none-front (b ∷ x) y e = rw (and_left (is_refusal b) _ e, none-front x y (and_right (is_refusal b) _ e)) refl

pub none-back : (x y : List ℕ) → none_accepted (x ++ y) ≡ true → none_accepted y ≡ true
unfolding none_accepted every
none-back [] y e = e
none-back (b ∷ x) y e = none-back x y (and_right (is_refusal b) _ e)

none_last : (x : List ℕ) (v : ℕ) → none_accepted (x ++ v ∷ []) ≡ true → is_refusal v ≡ true
unfolding none_accepted every
none_last x v e = and_left (is_refusal v) true (none-back x (v ∷ []) e)

-- a piece that ends no text has none accepted
fed-more : (h : Held) (l : ℕ) (p : List ℕ) → LaneThere h l → ends_at h l p ≡ false → is_accepted (feeding h l p).answer ≡ false
unfolding is_accepted
fed-more h l p here e = ap (λ (f : held.Fed). is_accepted f.answer) (fed-open h l here p e)

-- ---- text after text

pub record Going (s₀ : List ℕ) (l : ℕ) (p : List ℕ) (n : ℕ) (v₀ s v : List ℕ) (at i : ℕ) : Type 0 where
  pub within : i ≤ n
  pub reach : at ≤ length p
  pub texts : i + texts_at (held_at s) l (drop at p) ≡ n
  pub whole : whole_at s ≡ true
  pub opening : (held_at s).opening ≡ (held_at s₀).opening
  pub size : length s ≡ length s₀
  pub behind : (j : ℕ) → size_at s₀ ≤ j → get_or s j 0 ≡ get_or s₀ j 0
  pub outside : none_accepted (take i v) ≡ true → SameOutside s₀ l s
  pub room : length v ≡ length v₀
  pub kept : drop i v ≡ drop i v₀
  pub verdicts : (batching n (held_at s₀) l p).verdicts ≡ take i v ++ (batching (texts_at (held_at s) l (drop at p)) (held_at s) l (drop at p)).verdicts
  pub after : (batching n (held_at s₀) l p).after ≡ (batching (texts_at (held_at s) l (drop at p)) (held_at s) l (drop at p)).after

pub going-none : (s : List ℕ) (l : ℕ) (p : List ℕ) (n : ℕ) (v : List ℕ) → whole_at s ≡ true → n ≡ texts_at (held_at s) l p → Going s l p n v s v 0 0
going-none s l p n v w e = record {
  within = omega arith;
  reach = omega arith;
  texts = omega arith;
  whole = w;
  opening = refl;
  size = refl;
  behind = λ j h. refl;
  outside = λ e j h. refl;
  room = refl;
  kept = refl;
  verdicts = rw e refl;
  after = rw e refl;
}

module _ (s₀ : List ℕ) (l : ℕ) (p : List ℕ) (n : ℕ) (v₀ s v : List ℕ) (at i : ℕ) (m : l < (numbers_at s₀).lanes) (g : Going s₀ l p n v₀ s v at i) where
  numbers-in : numbers_at s ≡ numbers_at s₀
  unfolding held_in opening_at
  numbers-in = ap (λ (o : Opening). o.numbers) g.opening

  pub going-lane : l < (numbers_at s).lanes
  going-lane = rw numbers-in m

  lane_in : LaneThere (held_at s) l
  lane_in = record { counted = rw (held-numbers s) going-lane; text = omega (arith, going-lane, texts-length s) }

  pub going-index : (starts links : List ℕ) → Indexed (names_at s₀) starts links → Indexed (names_at s) starts links
  unfolding held_in opening_at
  going-index starts links x = rw (ap (λ (o : Opening). o.names) g.opening) x

  -- the rest of the piece, as it is lent
  pub going-part : (r : Fed) (t : List ℕ) → FedWell s l (take (length p - at) (drop at p)) r t → FedWell s l (drop at p) r t
  going-part r t f = subst (λ (q : List ℕ). FedWell s l q r t) (take_all (length p - at) (drop at p) (omega (arith, length-drop at p))) f

  module _ (r : Fed) (t : List ℕ) (f : FedWell s l (drop at p) r t) where
    after-held : held_at t ≡ (feeding (held_at s) l (drop at p)).after
    after-held = f.left.holds.held

    opening_on : (held_at t).opening ≡ (held_at s₀).opening
    opening_on = ap (λ (h : Held). h.opening) after-held ∙ feeding-opening (held_at s) l (drop at p) ∙ g.opening

    behind-on : (j : ℕ) → size_at s₀ ≤ j → get_or t j 0 ≡ get_or s₀ j 0
    behind-on j b =
        let z : store_size (feeding (held_at s) l (drop at p)).after.opening.numbers ≡ size_at s₀ =
        ap (λ (o : Opening). store_size o.numbers) (feeding-opening (held_at s) l (drop at p) ∙ g.opening) ∙ size-held s₀ in
        f.left.holds.behind j (omega arith) ∙ g.behind j b

    module _ (d : i < n) (fits : n ≤ length v₀) where
      some-text : ends_at (held_at s) l (drop at p) ≡ true
      some-text = has-text (open_in (lane_of (held_at s) l)) (drop at p) (omega (arith, g.texts))

      taken_is : (feeding (held_at s) l (drop at p)).taken ≡ suc (length (last_part (held_at s) l (drop at p)))
      taken_is = first_taken (held_at s) l lane_in (drop at p) some-text

      -- what is left behind this text
      rest : drop r.taken (drop at p) ≡ drop (at + r.taken) p
      rest = drop-drop r.taken at p

      one_less : texts_at (held_at s) l (drop at p) ≡ suc (texts_at (held_at t) l (drop (at + r.taken) p))
      one_less =
          one-fed (held_at s) l lane_in (drop at p) some-text
          ∙ ap₂ (λ (h : Held) (q : List ℕ). suc (texts_at h l q)) (sym after-held) (ap (λ (k : ℕ). drop k (drop at p)) (sym f.taken) ∙ rest)

      batch-on : batching (texts_at (held_at s) l (drop at p)) (held_at s) l (drop at p)
          ≡ with_verdict (verdict_number (progress_given r.progress)) (batching (texts_at (held_at t) l (drop (at + r.taken) p)) (held_at t) l (drop (at + r.taken) p))
      unfolding batching
      batch-on = rw (one_less, f.answer, after-held, ← rest, f.taken)

      pub taken-fits : at + r.taken ≤ length p
      taken-fits = omega (arith, f.taken, taken_is, end-inside (open_in (lane_of (held_at s) l)) (drop at p) some-text, length-drop at p)

      pub going_more : (x : ℕ) → x ≡ verdict_number (progress_given r.progress) → Going s₀ l p n v₀ t (set v i x) (at + r.taken) (i + 1)
      unfolding with_verdict
      going_more x e = record {
        within = omega arith;
        reach = taken-fits;
        texts = omega (arith, g.texts, one_less);
        whole = f.left.holds.whole;
        opening = opening_on;
        size = f.left.holds.size ∙ g.size;
        behind = behind-on;
        outside = λ q j h.
            let z : none_accepted (take i v ++ x ∷ []) ≡ true = rw (add-one i, take-suc-set v i x (omega (arith, g.room))) at q in
            let u : is_refusal (verdict_number (feeding (held_at s) l (drop at p)).answer) ≡ true = rw (e, f.answer) at (none_last (take i v) x z) in
            f.left.outside (refusal-number _ u) j h ∙ g.outside (none-front (take i v) (x ∷ []) z) j h;
        room = length-set v i x ∙ g.room;
        kept = rw (add-one i) (drop-set-lt (suc i) v i x (omega arith) ∙ next-kept);
        verdicts =
            g.verdicts
            ∙ rw (batch-on, add-one i, take-suc-set v i x (omega (arith, g.room)), ← e) (sym (append_assoc (take i v) (x ∷ []) _));
        after = g.after ∙ rw batch-on refl;
      }
        where
          next : (y : List ℕ) → drop (suc i) y ≡ drop 1 (drop i y)
          next y = sym (drop-drop 1 i y ∙ ap (λ (k : ℕ). drop k y) (add-one i))

          next-kept : drop (suc i) v ≡ drop (suc i) v₀
          next-kept = next v ∙ ap (drop 1) g.kept ∙ sym (next v₀)

    -- behind the last text nothing is left to judge
    module _ (d : i ≡ n) where
      none_left : texts_at (held_at s) l (drop at p) ≡ 0
      none_left = omega (arith, g.texts)

      last-after : (batching n (held_at s₀) l p).after ≡ held_at t
      unfolding batching
      last-after = g.after ∙ rw (none_left, after-held) refl

      last-verdicts : (batching n (held_at s₀) l p).verdicts ≡ take n v
      unfolding batching
      last-verdicts = g.verdicts ∙ rw (none_left, ← d) (append-nil (take i v))

      pub gone-holds : Holds (batching n (held_at s₀) l p).after s₀ t
      gone-holds = rw last-after (record {
        whole = f.left.holds.whole;
        held = refl;
        size = f.left.holds.size ∙ g.size;
        behind = λ j b. behind-on j (omega (arith, ap (λ (o : Opening). store_size o.numbers) opening_on, size-held s₀));
      })

      pub gone-outside : none_accepted (batching n (held_at s₀) l p).verdicts ≡ true → SameOutside s₀ l t
      gone-outside q j h =
          f.left.outside (fed-more (held_at s) l (drop at p) lane_in (lacks-text (open_in (lane_of (held_at s) l)) (drop at p) none_left)) j h
          ∙ g.outside (rw (last-verdicts, ← d) at q) j h

      pub gone-verdicts : v ≡ (batching n (held_at s₀) l p).verdicts ++ drop n v₀
      gone-verdicts = sym (take-append-drop n v) ∙ rw (last-verdicts, ← d, g.kept) refl

-- ---- the returns of a batch

pub batching-length : (n : ℕ) (h : Held) (l : ℕ) (p : List ℕ) → length (batching n h l p).verdicts ≡ n
unfolding batching with_verdict
batching-length zero h l p = refl
batching-length (suc n) h l p = ap suc (batching-length n (feeding h l p).after l (drop (feeding h l p).taken p))

pub batched-length : (n : ℕ) (h : Held) (l : ℕ) (p v x : List ℕ) → n ≤ length v → x ≡ (batching n h l p).verdicts ++ drop n v → length x ≡ length v
batched-length n h l p v x f e =
    rw e (omega (arith, length-append (batching n h l p).verdicts (drop n v), batching-length n h l p, length-drop n v))

-- a refusal leaves the lent bytes and the verdicts' buffer as found
pub batch-refused : (x : Answer Batched) (l : ℕ) (s v : List ℕ) (r : Refusal) → x ≡ refusing r → BatchedAs x l (Err r) s v s v
unfolding BatchedAs number_given
batch-refused x l s v r e = rw e (refl, refl, refl)

module _ (s : List ℕ) (l : ℕ) (p v : List ℕ) (w : whole_at s ≡ true) where
  batch-whole : batch_of s l p (length v) ≡ batch (held_at s) l p (length v)
  batch-whole = when_whole s (λ h. batch h l p (length v)) w

  pub batch-no-lane : (numbers_at s).lanes ≤ l → batch_of s l p (length v) ≡ refusing why.NoLane
  batch-no-lane h = batch-whole ∙ nowhere
    where
      nowhere : batch (held_at s) l p (length v) ≡ refusing why.NoLane
      nowhere = unfold batch refusal_number in rw (held-numbers s, le-ltb l (numbers_at s).lanes h)

  module _ (m : l < (numbers_at s).lanes) (n : ℕ) (e : n ≡ texts_at (held_at s) l p) where
    batch-here : batch (held_at s) l p (length v) ≡ (if ltb (length v) n then refused 4 else gives (batching n (held_at s) l p))
    unfolding batch
    batch-here = rw (held-numbers s, lt-ltb l (numbers_at s).lanes m, e)

    pub batch-short : length v < n → batch_of s l p (length v) ≡ refusing why.TooShort
    unfolding refusal_number
    batch-short h = batch-whole ∙ batch-here ∙ rw (lt-ltb (length v) n h)

    pub batch-done : n ≤ length v → (t x : List ℕ) → Holds (batching n (held_at s) l p).after s t → x ≡ (batching n (held_at s) l p).verdicts ++ drop n v
        → (none_accepted (batching n (held_at s) l p).verdicts ≡ true → SameOutside s l t)
        → BatchedAs (batch_of s l p (length v)) l (Ok n) s v t x
    batch-done h t x a q f =
        rw (batch-whole, batch-here, le-ltb (length v) n h)
        (unfold BatchedAs number_given in (ap gives (sym (batching-length n (held_at s) l p)), a, rw (batching-length n (held_at s) l p) q, f))
