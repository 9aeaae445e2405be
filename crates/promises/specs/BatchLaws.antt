-- A batch among the calls: it is its texts, fed one after another. Assumes nothing.
--
--   BatchIs n q h l p     a batch of n texts holds, answers and judges what the feedings of these texts do; q: whether quotes are open in its lane
--   batch-is              so does each batch to a lane that is there
--   after-handed          every call holds what the feedings and closings hold that it hands in
--   verdicts-handed       its verdicts are theirs
--   SameTexts h k c       the call c, if it is a batch, has the same texts on the collections h and k
--   same-texts            so it has where its lane holds the same
--   handed-same           such collections hand in the same
--   told_same             and where they answer these feedings alike, and questions, they answer every call alike
use Rattle.std.specs.Prelude.{ℕ, zero, suc, ◌≡◌, Bool, length, get_or, set, drop, if◌then◌else◌}
use Rattle.std.proofs.Common.{arith, ◌∙◌}
use Rattle.std.proofs.Math.Path.{refl, sym, ap, ap₂, subst}
use Rattle.std.proofs.Math.Bool.{true, false}
use mathlib.Core.List.{List, [], ◌∷◌, ◌++◌, map}
use Rattle.std.proofs.Math.Dec.{ltb}
use Rattle.std.proofs.Math.ListN.{take}
use Rattle.std.proofs.Math.Seq.{take-append_seam}
use Rattle.trees.specs.Plain.{Answer, refused, gives}
use Rattle.trees.specs.Text.{semicolon, open_after}
use Rattle.trees.specs.Opening.{Opening}
use Rattle.trees.specs.Held.{Held, Lane, holding, lane_of, with_lane, open_in, longer, verdict, Progress, Fed, recording, finishing, feeding}
use Rattle.trees.specs.Batch.{texts_in, verdict_number, with_verdict, Batched, batching, batch}
use Rattle.trees.specs.Runs.{Call, feed, Heard, fed, answer, next, answers, ending, Final, finals}
use Rattle.theorems.specs.QuoteLaws.{before-unended, before-closed, before-end, has_end_lem}
use Rattle.theorems.specs.FeedingLaws.{ends_at, last_part, feeding_by, feeding-by}
use Rattle.theorems.specs.OwnLaneLaws.{feeding-opening}
use Rattle.theorems.specs.RunLaws.{more-exactly}
use Rattle.theorems.specs.NexusFedLaws.{heard_verdict}
use Rattle.answers.specs.Filled.{length_given, front}
use Rattle.text.specs.EndLaws.{one-text, has-text, lacks-text}
use Rattle.promises.specs.Calls.{Question, reply, Made, one, many, file, ask, reopen, Told, heard, batched, replied, numbers_in, after_batch, told, after, cut, handed, verdict_of, verdicts_told}
use Rattle.promises.specs.VerdictNumbers.{verdict-small, Settled, finished-settled, settled-read}
use Rattle.promises.specs.FileLaws.{file-after, file-verdicts, file-same}

-- ---- a text with its semicolon, alone

-- a lane that was emptied, or is not there
emptied : (xs : List Lane) (l : ℕ) → get_or (set xs l (holding [])) l (holding []) ≡ holding []
emptied [] l = refl
emptied (x ∷ xs) zero = refl
emptied (x ∷ xs) (suc l) = emptied xs l

-- whether quotes are open in lane l
abbrev quotes : Held → ℕ → Bool
quotes h l = open_in (lane_of h l)

module _ (h : Held) (l : ℕ) (p : List ℕ) (lane : ltb l h.opening.numbers.lanes ≡ true) (e : ends_at h l p ≡ true) where
  abbrev first : List ℕ
  first = last_part h l p ++ semicolon ∷ []

  fed-as : feeding h l p ≡ feeding_by true true h l p
  fed-as = feeding-by h l p ∙ ap₂ (λ (x y : Bool). feeding_by x y h l p) lane e

  first-as : feeding h l first ≡ feeding_by true true h l p
  first-as =
      feeding-by h l first ∙ ap₂ (λ (x y : Bool). feeding_by x y h l first) lane (has_end_lem [] (quotes h l) (last_part h l p) (before-closed (quotes h l) p e))
      ∙ ap (λ (w : List ℕ). finishing h l (suc (length w)) (verdict h (longer (lane_of h l) w)))
      (before-end [] (quotes h l) (last_part h l p) (before-unended (quotes h l) p) (before-closed (quotes h l) p e))

  fed-first : feeding h l p ≡ feeding h l first
  fed-first = fed-as ∙ sym first-as

  fed-taken : (feeding h l p).taken ≡ suc (length (last_part h l p))
  unfolding finishing
  fed-taken = ap (λ (f : Fed). f.taken) fed-as

  fed-settled : Settled (feeding h l p).answer
  unfolding finishing
  fed-settled =
      let x = longer (lane_of h l) (last_part h l p) in
      subst (λ (f : Fed). Settled f.answer) (sym fed-as) (finished-settled h (verdict h x) (verdict-small h x))

  -- "After a semicolon the lane is empty either way"
  fed-closed : quotes (feeding h l p).after l ≡ false
  unfolding finishing with_lane lane_of open_in open_after
  fed-closed =
      ap (λ (f : Fed). quotes f.after l) fed-as
      ∙ ap open_in (emptied (recording h (verdict h (longer (lane_of h l) (last_part h l p)))).texts l)

-- ---- a batch to a lane that is there

abbrev feedings : ℕ → ℕ → Bool → List ℕ → List Call
feedings l n q p = map (feed l) (cut n q p)

pub record BatchIs (n : ℕ) (q : Bool) (h : Held) (l : ℕ) (p : List ℕ) : Type 0 where
  pub ends : (batching n h l p).after ≡ ending h (feedings l n q p)
  pub hears : (batching n h l p).verdicts ≡ take n (map heard_verdict (answers h (feedings l n q p)))
  pub judges : map verdict_of (batching n h l p).verdicts ≡ finals (answers h (feedings l n q p))

-- what is heard of a feeding, and then of the calls cs on what it leaves
abbrev heard_then : Fed → List Call → List Heard
heard_then f cs = fed f.taken f.answer ∷ answers f.after cs

module _ (n : ℕ) (h : Held) (l : ℕ) (p : List ℕ) (lane : ltb l h.opening.numbers.lanes ≡ true) (m : ends_at h l p ≡ true) where
  -- what is behind the first text
  abbrev behind : List ℕ
  behind = drop (suc (length (last_part h l p))) p

  batch-now : batching (suc n) h l p ≡ with_verdict (verdict_number (feeding h l p).answer) (batching n (feeding h l p).after l behind)
  unfolding batching
  batch-now = ap (λ (k : ℕ). with_verdict (verdict_number (feeding h l p).answer) (batching n (feeding h l p).after l (drop k p))) (fed-taken h l p lane m)

  batch-more : BatchIs n false (feeding h l p).after l behind → BatchIs (suc n) (quotes h l) h l p
  unfolding with_verdict cut ending next answers answer heard_verdict
  batch-more rest = record {
    ends = ap (λ (b : Batched). b.after) batch-now ∙ rest.ends ∙ ap (λ (f : Fed). ending f.after (feedings l n false behind)) (fed-first h l p lane m);
    hears =
        ap (λ (b : Batched). b.verdicts) batch-now ∙ ap (λ (vs : List ℕ). verdict_number (feeding h l p).answer ∷ vs) rest.hears
        ∙ ap (λ (f : Fed). take (suc n) (map heard_verdict (heard_then f (feedings l n false behind)))) (fed-first h l p lane m);
    judges =
        ap (λ (b : Batched). map verdict_of b.verdicts) batch-now
        ∙ ap (λ (vs : List Final). verdict_of (verdict_number (feeding h l p).answer) ∷ vs) rest.judges
        ∙ sym (settled-read (feeding h l p).taken (feeding h l p).answer (fed-settled h l p lane m) (answers (feeding h l p).after (feedings l n false behind)))
        ∙ ap (λ (f : Fed). finals (heard_then f (feedings l n false behind))) (fed-first h l p lane m);
  }

  lane-stays : ltb l (feeding h l p).after.opening.numbers.lanes ≡ true
  lane-stays = ap (λ (o : Opening). ltb l o.numbers.lanes) (feeding-opening h l p) ∙ lane

pub batch-is : (n : ℕ) (h : Held) (l : ℕ) (p : List ℕ) → ltb l h.opening.numbers.lanes ≡ true → texts_in (quotes h l) p ≡ n → BatchIs n (quotes h l) h l p
unfolding batching cut ending next answers answer heard_verdict finals
batch-is zero h l p lane e = record {
  ends = refl;
  hears = refl;
  judges = sym (ap (λ (a : Answer Progress). finals (fed (feeding h l p).taken a ∷ [])) ((more-exactly h l p lane).1 (lacks-text (quotes h l) p e)));
}
batch-is (suc n) h l p lane e =
    let m = has-text (quotes h l) p (omega (arith, e)) in
    let r = behind n h l p lane m in
    let o = fed-closed h l p lane m in
    let t : texts_in false r ≡ n = omega (arith, e, one-text (quotes h l) p m) in
    batch-more n h l p lane m
    (subst (λ (x : Bool). BatchIs n x (feeding h l p).after l r) o
    (batch-is n (feeding h l p).after l r (lane-stays n h l p lane m) (ap (λ (x : Bool). texts_in x r) o ∙ t)))

-- ---- every call, by what it hands in

module _ (h : Held) where
  pub after-handed : (c : Made) → after h c ≡ ending h (handed h c)
  unfolding after batch handed ending
  after-handed (one c) = refl
  after-handed (many l p v) = go (ltb l h.opening.numbers.lanes) (ltb (length v) (texts_in (quotes h l) p)) refl
    where
      go : (b c : Bool) → ltb l h.opening.numbers.lanes ≡ b
          → after_batch h (if b then if c then refused 4 else gives (batching (texts_in (quotes h l) p) h l p) else refused 5)
          ≡ ending h (if b then if c then [] else feedings l (texts_in (quotes h l) p) (quotes h l) p else [])
      go true true e = unfold after_batch in refl
      go true false e = unfold after_batch in (batch-is (texts_in (quotes h l) p) h l p e refl).ends
      go false c e = unfold after_batch in refl
  after-handed (file f v) = file-after h f (length v)
  after-handed (ask q) = refl
  after-handed (reopen x names first second) = refl

-- what a batch answers, from its two tests, that there is such a lane and that the buffer is too short, and its verdicts
abbrev batch_told : Bool → Bool → List ℕ → List ℕ → Told
batch_told true true vs v = batched (refused 4) v
batch_told true false vs v = batched (gives (length vs)) (vs ++ drop (length vs) v)
batch_told false c vs v = batched (refused 5) v

-- of a piece with n texts
abbrev batch_heard : ℕ → Held → ℕ → List ℕ → List ℕ → Told
batch_heard n h l p v = batch_told (ltb l h.opening.numbers.lanes) (ltb (length v) n) (batching n h l p).verdicts v

module _ (lent : ℕ) (h : Held) where
  told-many : (l : ℕ) (p v : List ℕ) → told lent h (many l p v) ≡ batch_heard (texts_in (quotes h l) p) h l p v
  unfolding told batch
  told-many l p v = go (ltb l h.opening.numbers.lanes) (ltb (length v) (texts_in (quotes h l) p))
    where
      given : Answer Batched → Told
      given x = batched (length_given (numbers_in x)) (front (numbers_in x) v)

      go : (b c : Bool) → given (if b then if c then refused 4 else gives (batching (texts_in (quotes h l) p) h l p) else refused 5)
          ≡ batch_told b c (batching (texts_in (quotes h l) p) h l p).verdicts v
      go true true = unfold numbers_in length_given front in refl
      go true false = unfold numbers_in length_given front in refl
      go false c = unfold numbers_in length_given front in refl

  pub verdicts-handed : (c : Made) (rest : List Told) → verdicts_told (told lent h c ∷ rest) ≡ finals (answers h (handed h c)) ++ verdicts_told rest
  unfolding verdicts_told told handed answers finals
  verdicts-handed (one c) rest = refl
  verdicts-handed (many l p v) rest =
      ap (λ (a : Told). verdicts_told (a ∷ rest)) (told-many l p v) ∙ go (ltb l h.opening.numbers.lanes) (ltb (length v) (texts_in (quotes h l) p)) refl
    where
      go : (b c : Bool) → ltb l h.opening.numbers.lanes ≡ b
          → verdicts_told (batch_told b c (batching (texts_in (quotes h l) p) h l p).verdicts v ∷ rest)
          ≡ finals (answers h (if b then if c then [] else feedings l (texts_in (quotes h l) p) (quotes h l) p else [])) ++ verdicts_told rest
      go true true e = refl
      go true false e =
          ap (λ (vs : List ℕ). map verdict_of vs ++ verdicts_told rest) (take-append_seam (batching (texts_in (quotes h l) p) h l p).verdicts _)
          ∙ ap (λ (vs : List Final). vs ++ verdicts_told rest) (batch-is (texts_in (quotes h l) p) h l p e refl).judges
      go false c e = refl
  verdicts-handed (file f v) rest = file-verdicts lent h f v rest
  verdicts-handed (ask q) rest = refl
  verdicts-handed (reopen x names first second) rest = refl

-- ---- two collections

-- as many texts, in the same pieces
pub record SamePieces (h k : Held) (l : ℕ) (p : List ℕ) : Type 0 where
  pub many : texts_in (quotes h l) p ≡ texts_in (quotes k l) p
  pub pieces : cut (texts_in (quotes h l) p) (quotes h l) p ≡ cut (texts_in (quotes h l) p) (quotes k l) p

abbrev pub SameTexts : Held → Held → Made → Type 0
SameTexts h k (one c) = Unit {0}
SameTexts h k (many l p v) = SamePieces h k l p
SameTexts h k (file f v) = Unit {0}
SameTexts h k (ask q) = Unit {0}
SameTexts h k (reopen x names first second) = Unit {0}

pub same-texts : (h k : Held) (l : ℕ) (p : List ℕ) → lane_of h l ≡ lane_of k l → SamePieces h k l p
same-texts h k l p e = record {
  many = ap (λ (x : Lane). texts_in (open_in x) p) e;
  pieces = ap (λ (x : Lane). cut (texts_in (quotes h l) p) (open_in x) p) e;
}

head_or : Heard → List Heard → Heard
head_or a [] = a
head_or a (b ∷ bs) = b

module _ (h k : Held) (lanes : h.opening.numbers.lanes ≡ k.opening.numbers.lanes) where
  -- what a batch hands in, from how many lanes there are, how many texts it has and their pieces
  abbrev handed_by : ℕ → ℕ → List ℕ → ℕ → List (List ℕ) → List Call
  handed_by l m v n ps = if ltb l m then if ltb (length v) n then [] else map (feed l) ps else []

  pub handed-same : (c : Made) → SameTexts h k c → handed h c ≡ handed k c
  unfolding handed
  handed-same (one c) s = refl
  handed-same (many l p v) s =
      ap₂ (λ (m : ℕ) (ps : List (List ℕ)). handed_by l m v (texts_in (quotes h l) p) ps) lanes s.pieces
      ∙ ap (λ (n : ℕ). handed_by l k.opening.numbers.lanes v n (cut n (quotes k l) p)) s.many
  handed-same (file f v) s = refl
  handed-same (ask q) s = refl
  handed-same (reopen x names first second) s = refl

  module _ (lent : ℕ) where
    -- a batch, from the answers to the feedings of its texts
    many-same : (l : ℕ) (p v : List ℕ) → SamePieces h k l p → (b c : Bool) → ltb l h.opening.numbers.lanes ≡ b
        → answers h (if b then if c then [] else feedings l (texts_in (quotes h l) p) (quotes h l) p else [])
        ≡ answers k (if b then if c then [] else feedings l (texts_in (quotes h l) p) (quotes h l) p else [])
        → batch_told b c (batching (texts_in (quotes h l) p) h l p).verdicts v ≡ batch_told b c (batching (texts_in (quotes h l) p) k l p).verdicts v
    many-same l p v s true true a e = refl
    many-same l p v s true false a e =
        let n = texts_in (quotes h l) p in
        ap (λ (vs : List ℕ). batched (gives (length vs)) (vs ++ drop (length vs) v))
        ((batch-is n h l p a refl).hears ∙ ap (λ (as' : List Heard). take n (map heard_verdict as')) e
        ∙ ap (λ (ps : List (List ℕ)). take n (map heard_verdict (answers k (map (feed l) ps)))) s.pieces
        ∙ sym (batch-is n k l p (ap (ltb l) (sym lanes) ∙ a) (sym s.many)).hears)
    many-same l p v s false c a e = refl

    pub told_same : (c : Made) → SameTexts h k c → answers h (handed h c) ≡ answers k (handed h c)
        → ((q : Question) → c ≡ ask q → reply h q ≡ reply k q) → told lent h c ≡ told lent k c
    unfolding told handed answers head_or
    told_same (one c) s e asked = ap (λ (as' : List Heard). heard (head_or (answer h c) as')) e
    told_same (many l p v) s e asked =
        told-many lent h l p v ∙ many-same l p v s (ltb l h.opening.numbers.lanes) (ltb (length v) (texts_in (quotes h l) p)) refl e
        ∙ ap (λ (m : ℕ). batch_told (ltb l m) (ltb (length v) (texts_in (quotes h l) p)) (batching (texts_in (quotes h l) p) k l p).verdicts v) lanes
        ∙ ap (λ (n : ℕ). batch_heard n k l p v) s.many ∙ sym (told-many lent k l p v)
    told_same (file f v) s e asked = file-same lent h k f v e
    told_same (ask q) s e asked = ap replied (asked q refl)
    told_same (reopen x names first second) s e asked = refl
