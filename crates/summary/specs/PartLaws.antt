-- The texts of a piece, fed part by part and piece by piece. Assumes nothing.
--
--   lane_whole, lane-there           a whole store has a lane 0
--   texts-most                       a piece ends no more texts than it has bytes
--   part-refused, part-given, verdicts-there     a part that is one batch
--   counted, given-whole, given-count     the answer of a feeding on whole bytes
--   refused-append                   the refusals among two runs of verdicts
--   fed-more                         feeding p and then q is feeding p ++ q
--   holds_then                       lent bytes that change twice
--   texts-join                       what the promises of two feedings come to
--   texts-size                       the lent bytes stay as many
--   Rest ..                          part after part: what is left of the piece decides
--   rest-none, rest_more, rest-refused, rest-last     no part yet, one more, a refusal, and the last
use Rattle.std.specs.Prelude.{ℕ, suc, ◌+◌, ◌-◌, ◌≤◌, ◌<◌, Bool, List, [], ◌∷◌, ◌++◌, get_or, drop, if◌then◌else◌, Result, Ok, Err}
use Rattle.std.proofs.Common.{arith, subst, ◌∙◌, true≢false, length-drop, take-append-drop, take_at, take_all, drop-drop}
use Rattle.std.proofs.Math.Path.{◌≡◌, refl, sym, ap}
use Rattle.std.proofs.Math.Bool.{true, false}
use Rattle.std.proofs.Math.ListN.{length, take, length-append}
use borrow.Author.Tests.{lt-ltb, le-ltb}
use Rattle.trees.specs.Plain.{keep, Answer, refused, gives}
use Rattle.trees.specs.Opening.{Numbers}
use Rattle.trees.specs.Text.{turned, ends_text, open_after}
use Rattle.trees.specs.Held.{Held, lane_of, open_in}
use Rattle.trees.specs.Batch.{texts_in, is_refusal, Batched, batching, batch, refused_in}
use Rattle.theorems.specs.ListLaws.{keep_append}
use Rattle.answers.specs.declared.Refusal.{Refusal}
use Rattle.answers.specs.Answers.{refusal_number, number_given}
use Rattle.text.specs.EndLaws.{texts-append}
use Rattle.head.specs.Head.{opening_at}
use Rattle.layout.specs.Store.{held_at}
use Rattle.layout.specs.WholeStore.{whole_at}
use Rattle.store.specs.HeldWholeLaws.{held-numbers, texts-length, opening-facts}
use Rattle.store.specs.Lent.{Holds}
use Rattle.store.specs.LentLaws.{not-whole, when_whole}
use Rattle.feeding.specs.Feeding.{batch_of, BatchedAs}
use Rattle.feeding.specs.BatchLaws.{none-front, none-back}
use Rattle.feeding.specs.Texts.{texts_at}
use Rattle.feeding.specs.CutLaws.{LaneThere, joined, batching-opening, batching-open, batching-append}
use Rattle.summary.specs.Texts.{part, capped, texts_fed, texts_count, TextsAs}
use Rattle.summary.specs.TextsLaws.{capped-more}

-- ---- a whole store has a lane 0

pub lane_whole : (s : List ℕ) → whole_at s ≡ true → 0 < (held_at s).opening.numbers.lanes
unfolding opening_at
lane_whole s w = rw (held-numbers s) (omega (arith, (opening-facts s w).ranges.least-lanes))

pub lane-there : (s : List ℕ) → whole_at s ≡ true → LaneThere (held_at s) 0
lane-there s w = record { counted = lane_whole s w; text = omega (arith, lane_whole s w, texts-length s, ap (λ (x : Numbers). x.lanes) (held-numbers s)) }

-- ---- at most 4,096 bytes: one batch

pub texts-most : (q : Bool) (p : List ℕ) → texts_in q p ≤ length p
unfolding texts_in
texts-most q [] = omega arith
texts-most q (b ∷ p) = go (ends_text q b) (texts-most (turned q b) p)
  where
    go : (t : Bool) → texts_in (turned q b) p ≤ length p → (if t then suc (texts_in (turned q b) p) else texts_in (turned q b) p) ≤ suc (length p)
    go true h = omega arith
    go false h = omega arith

module _ (s : List ℕ) (n : ℕ) (p : List ℕ) (e : whole_at s ≡ false) where
  not-counted : texts_count s n p ≡ refused 1
  unfolding texts_count refusal_number
  not-counted = not-whole s (λ h. gives (capped (n + refused_in (texts_fed h p).verdicts))) e

  texts-not-whole : (r : Result ℕ Refusal) (t : List ℕ) → number_given r ≡ refused 1 → t ≡ s → TextsAs s n p r t
  texts-not-whole r t a f = record {
    answer = a ∙ sym not-counted;
    found = λ g. f;
    holds = λ g. absurd (true≢false (sym g ∙ e));
    outside = λ g i h. ap (λ (x : List ℕ). get_or x i 0) f;
  }

pub counted : (s : List ℕ) (n : ℕ) (p : List ℕ) → whole_at s ≡ true → texts_count s n p ≡ gives (capped (n + refused_in (texts_fed (held_at s) p).verdicts))
unfolding texts_count
counted s n p w = when_whole s (λ h. gives (capped (n + refused_in (texts_fed h p).verdicts))) w

module _ (s p : List ℕ) (room : ℕ) (e : room ≡ part) (few : length p ≤ part) where
  batch-whole : whole_at s ≡ true → batch_of s 0 p room ≡ gives (texts_fed (held_at s) p)
  unfolding batch
  batch-whole w =
      when_whole s (λ h. batch h 0 p room) w
      ∙ rw (lt-ltb 0 (held_at s).opening.numbers.lanes (lane_whole s w), le-ltb room (texts_at (held_at s) 0 p) (omega (arith, texts-most (open_in (lane_of (held_at s) 0)) p))) refl

  batch-refused : whole_at s ≡ false → batch_of s 0 p room ≡ refused 1
  unfolding refusal_number
  batch-refused w = not-whole s (λ h. batch h 0 p room) w

  module _ (n : ℕ) (r : Result ℕ Refusal) (v t w : List ℕ) (b : BatchedAs (batch_of s 0 p room) 0 r s v t w) where
    pub part-refused : (k : Refusal) → r ≡ Err k → TextsAs s n p (Err k) t
    unfolding BatchedAs number_given
    part-refused k f = go (whole_at s) refl (subst (λ (q : Result ℕ Refusal). BatchedAs (batch_of s 0 p room) 0 q s v t w) f b)
      where
        go : (x : Bool) → whole_at s ≡ x → BatchedAs (batch_of s 0 p room) 0 (Err k) s v t w → TextsAs s n p (Err k) t
        go false g q = let z = rw (batch-refused g) at q in texts-not-whole s n p g (Err k) t z.0 z.1
        go true g q = let z = rw (batch-whole g) at q in absurd (let y : ◌≡◌ {A = ℕ} 0 1 = cc z.0 in omega arith)

    pub part-given : (m c : ℕ) → r ≡ Ok m → c ≡ refused_in (take m w) → (x : ℕ) → x ≡ capped (n + c) → TextsAs s n p (Ok x) t
    unfolding BatchedAs number_given
    part-given m c f d x y = go (whole_at s) refl (subst (λ (q : Result ℕ Refusal). BatchedAs (batch_of s 0 p room) 0 q s v t w) f b)
      where
        go : (o : Bool) → whole_at s ≡ o → BatchedAs (batch_of s 0 p room) 0 (Ok m) s v t w → TextsAs s n p (Ok x) t
        go false g q = let z = rw (batch-refused g) at q in absurd (let y : ◌≡◌ {A = ℕ} 0 1 = cc z.0 in omega arith)
        go true g q =
            let z = rw (batch-whole g) at q in
            let u = (texts_fed (held_at s) p).verdicts in
            let l : m ≡ length u = cc z.0 in
            let a : take m w ≡ u = rw (z.2, l) (take_at u (drop (length u) v) (length u) refl) in
            record {
              answer = ap gives (y ∙ ap (λ (k : ℕ). capped (n + k)) (d ∙ ap refused_in a)) ∙ sym (counted s n p g);
              found = λ h. absurd (true≢false (sym g ∙ h));
              holds = λ h. z.1;
              outside = z.3;
            }

    -- the verdicts that are counted are there
    pub verdicts-there : (m : ℕ) → r ≡ Ok m → m ≤ length w
    unfolding BatchedAs number_given
    verdicts-there m f = go (batch_of s 0 p room) (subst (λ (q : Result ℕ Refusal). BatchedAs (batch_of s 0 p room) 0 q s v t w) f b)
      where
        go : (y : Answer Batched) → BatchedAs y 0 (Ok m) s v t w → m ≤ length w
        go (refused k) q = absurd (let z : ◌≡◌ {A = ℕ} 0 1 = cc q.0 in omega arith)
        go (gives y) q =
            let l : m ≡ length y.verdicts = cc q.0 in
            omega (arith, ap length q.2, length-append y.verdicts (drop (length y.verdicts) v))

-- ---- one piece behind another

pub refused-append : (v w : List ℕ) → refused_in (v ++ w) ≡ refused_in v + refused_in w
unfolding refused_in
refused-append v w = ap length (keep_append is_refusal v w) ∙ length-append (keep is_refusal v) (keep is_refusal w)

pub fed-more : (h : Held) → LaneThere h 0 → (p q : List ℕ) → texts_fed h (p ++ q) ≡ joined (texts_fed h p) (texts_fed (texts_fed h p).after q)
fed-more h here p q =
    let o = open_in (lane_of h 0) in
    ap (λ (n : ℕ). batching n h 0 (p ++ q)) (texts-append o p q)
    ∙ batching-append (texts_at h 0 p) (texts_in (open_after o p) q) h 0 here p q refl
    ∙ ap (λ (b : Bool). joined (texts_fed h p) (batching (texts_in b q) (texts_fed h p).after 0 q)) (sym (batching-open (texts_at h 0 p) h 0 here p refl))

-- lent bytes that hold more and more
pub holds_then : (h k : Held) (s t u : List ℕ) → k.opening ≡ h.opening → Holds h s t → Holds k t u → Holds k s u
holds_then h k s t u e a b = record {
  whole = b.whole;
  held = b.held;
  size = b.size ∙ a.size;
  behind = λ i l. b.behind i l ∙ a.behind i (rw (← e) l);
}

module _ (s : List ℕ) (n : ℕ) (p : List ℕ) (m : ℕ) (u : List ℕ) (a : TextsAs s n p (Ok m) u) where
  pub given-whole : whole_at s ≡ true
  unfolding number_given
  given-whole = go (whole_at s) refl
    where
      go : (x : Bool) → whole_at s ≡ x → x ≡ true
      go true e = refl
      go false e = absurd (let f = a.answer ∙ not-counted s n p e in let z : ◌≡◌ {A = ℕ} 0 1 = cc f in omega arith)

  pub given-count : m ≡ capped (n + refused_in (texts_fed (held_at s) p).verdicts)
  unfolding number_given
  given-count = let f = a.answer ∙ counted s n p given-whole in cc f

  module _ (q : List ℕ) where
    both : texts_fed (held_at s) (p ++ q) ≡ joined (texts_fed (held_at s) p) (texts_fed (held_at u) q)
    both =
        fed-more (held_at s) (lane-there s given-whole) p q
        ∙ ap (λ (h : Held). joined (texts_fed (held_at s) p) (texts_fed h q)) (sym (a.holds given-whole).held)

    pub texts-join : (r : Result ℕ Refusal) (t : List ℕ) → TextsAs u m q r t → TextsAs s n (p ++ q) r t
    unfolding joined
    texts-join r t b =
        let g = a.holds given-whole in
        let v = (texts_fed (held_at s) p).verdicts in
        let w = (texts_fed (held_at u) q).verdicts in
        record {
          answer =
              b.answer ∙ counted u m q g.whole
              ∙ ap (λ (k : ℕ). gives (capped (k + refused_in w))) given-count
              ∙ ap gives (capped-more (n + refused_in v) (refused_in w) ∙ ap capped (omega (arith, refused-append v w)))
              ∙ ap (λ (x : Batched). gives (capped (n + refused_in x.verdicts))) (sym both)
              ∙ sym (counted s n (p ++ q) given-whole);
          found = λ e. absurd (true≢false (sym given-whole ∙ e));
          holds = λ e. rw both (holds_then _ _ s u t (batching-opening (texts_at (held_at u) 0 q) (held_at u) 0 q ∙ ap (λ (h : Held). h.opening) g.held) g (b.holds g.whole));
          outside = λ e i h. let z = rw both at e in b.outside (none-back v w z) i h ∙ a.outside (none-front v w z) i h;
        }

texts-stuck : (s : List ℕ) (n : ℕ) (p : List ℕ) (k : Refusal) (t : List ℕ) → TextsAs s n p (Err k) t → (q : List ℕ) → TextsAs s n q (Err k) t
unfolding number_given
texts-stuck s n p k t a q = go (whole_at s) refl
  where
    go : (x : Bool) → whole_at s ≡ x → TextsAs s n q (Err k) t
    go false e = texts-not-whole s n q e (Err k) t (a.answer ∙ not-counted s n p e) (a.found e)
    go true e = absurd (let f = a.answer ∙ counted s n p e in let z : ◌≡◌ {A = ℕ} 0 1 = cc f in omega arith)

-- the lent bytes are as many as before
pub texts-size : (s : List ℕ) (n : ℕ) (p : List ℕ) (r : Result ℕ Refusal) (t : List ℕ) → TextsAs s n p r t → length t ≡ length s
texts-size s n p r t a = go (whole_at s) refl
  where
    go : (x : Bool) → whole_at s ≡ x → length t ≡ length s
    go false e = ap length (a.found e)
    go true e = (a.holds e).size

-- ---- part after part

-- the parts of the piece p up to `at` are fed: what is left of it decides
pub record Rest (s₀ : List ℕ) (n₀ : ℕ) (p s : List ℕ) (n at : ℕ) : Type 0 where
  pub reach : at ≤ length p
  pub size : length s ≡ length s₀
  pub decides : (r : Result ℕ Refusal) (t : List ℕ) → TextsAs s n (drop at p) r t → TextsAs s₀ n₀ p r t

pub rest-none : (s : List ℕ) (n : ℕ) (p : List ℕ) → Rest s n p s n 0
rest-none s n p = record { reach = omega arith; size = refl; decides = λ r t a. a }

module _ (s₀ : List ℕ) (n₀ : ℕ) (p s : List ℕ) (n at k : ℕ) (g : Rest s₀ n₀ p s n at) (r : Result ℕ Refusal) (u : List ℕ) (a : TextsAs s n (take k (drop at p)) r u) where
  parts : take k (drop at p) ++ drop (at + k) p ≡ drop at p
  parts = ap (λ (v : List ℕ). take k (drop at p) ++ v) (sym (drop-drop k at p)) ∙ take-append-drop k (drop at p)

  pub rest_more : (m : ℕ) → r ≡ Ok m → (z : ℕ) → z ≡ at + k → z ≤ length p → Rest s₀ n₀ p u m z
  rest_more m e z f h = rw f (record {
    reach = rw (← f) h;
    size = texts-size s n (take k (drop at p)) r u a ∙ g.size;
    decides = λ q t b. g.decides q t (rw parts at (texts-join s n (take k (drop at p)) m u given (drop (at + k) p) q t b));
  })
    where
      given : TextsAs s n (take k (drop at p)) (Ok m) u
      given = subst (λ (x : Result ℕ Refusal). TextsAs s n (take k (drop at p)) x u) e a

  pub rest-refused : (w : Refusal) → r ≡ Err w → TextsAs s₀ n₀ p (Err w) u
  rest-refused w e =
      g.decides (Err w) u
      (texts-stuck s n (take k (drop at p)) w u (subst (λ (x : Result ℕ Refusal). TextsAs s n (take k (drop at p)) x u) e a) (drop at p))

pub rest-last : (s₀ : List ℕ) (n₀ : ℕ) (p s : List ℕ) (n at : ℕ) → Rest s₀ n₀ p s n at → (r : Result ℕ Refusal) (t : List ℕ)
    → TextsAs s n (take (length p - at) (drop at p)) r t → TextsAs s₀ n₀ p r t
rest-last s₀ n₀ p s n at g r t a =
    g.decides r t (subst (λ (q : List ℕ). TextsAs s n q r t) (take_all (length p - at) (drop at p) (omega (arith, length-drop at p))) a)
