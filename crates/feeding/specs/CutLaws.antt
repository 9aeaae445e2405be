-- However the bytes of a lane are cut, they are fed alike. Assumes nothing.
--
--   LaneThere h l          the collection h has a lane l
--   fed-open               a piece that ends no text
--   taken_more n f          the outcome f of a feeding, with n bytes more taken
--   continued              feeding p, which ends no text, and then q is feeding p ++ q
--   joined b c             the outcomes b and then c of two batches, as one
--   first_taken, one-fed   a piece that ends a text: what is taken of it, and behind it one text fewer
--   batching-opening       a batch changes no opening
--   batching-open          quotes are open behind a batch as behind its bytes
--   batching-append        a batch of p, and then one of q on what it leaves, are a batch of p ++ q
use Rattle.std.specs.Prelude.{ℕ, zero, suc, ◌+◌, ◌<◌, ◌≡◌, Bool, true, false, ◌||◌, ltb, length, drop, if◌then◌else◌}
use Rattle.std.proofs.Common.{zero-add, suc-add, arith, sym, ap₂, ◌∙◌, true≢false, length-append, length-set, set-set, lt-ltb}
use Rattle.std.proofs.Math.Path.{refl, ap}
use mathlib.Core.List.{List, [], ◌∷◌, ◌++◌}
use Rattle.std.proofs.Math.ListN.{get_or, set}
use Rattle.std.proofs.Math.Seq.{get_or-set_same, drop-append-add}
use Rattle.std.proofs.lemmas.List.{drop-append-le}
use Rattle.trees.specs.Plain.{Answer, refused, gives}
use Rattle.trees.specs.Text.{turned, open_after, ends_text, has_end, before_end}
use Rattle.trees.specs.Held.{Held, Lane, holding, overrun, Fed, more_wanted, accepted, lane_of, with_lane, with_tree, open_in, longer, new_splits, room_for, with_room, verdict, finished, recording, finishing, feeding}
use Rattle.trees.specs.Verdict.{Branches, judged_with}
use Rattle.trees.specs.Batch.{texts_in, verdict_number, with_verdict, Batched, batching}
use Rattle.theorems.specs.QuoteLaws.{end-turned, has-append}
use Rattle.theorems.specs.PieceLaws.{longer-longer, open-longer}
use Rattle.theorems.specs.FeedingLaws.{ends_at, last_part, feeding_by, feeding-by}
use Rattle.theorems.specs.OwnLaneLaws.{lanes_after, lane_after, recording-texts, feeding-opening, feeding-texts}
use Rattle.text.specs.EndLaws.{before-left, before-right, end-inside, one-text, has-text, lacks-text}
use Rattle.feeding.specs.Texts.{texts_at}

-- ---- a lane that is there

pub record LaneThere (h : Held) (l : ℕ) : Type 0 where
  pub counted : l < h.opening.numbers.lanes
  pub text : l < length h.texts

module _ (h : Held) (l : ℕ) (here : LaneThere h l) where
  pub fed-open : (p : List ℕ) → ends_at h l p ≡ false → feeding h l p ≡ record { taken = length p; answer = gives more_wanted; after = with_lane h l (longer (lane_of h l) p) }
  fed-open p e = feeding-by h l p ∙ ap₂ (λ (x y : Bool). feeding_by x y h l p) (lt-ltb l h.opening.numbers.lanes here.counted) e

  fed-text : (p : List ℕ) → ends_at h l p ≡ true
      → feeding h l p ≡ finishing h l (suc (length (last_part h l p))) (verdict h (longer (lane_of h l) (last_part h l p)))
  fed-text p e = feeding-by h l p ∙ ap₂ (λ (x y : Bool). feeding_by x y h l p) (lt-ltb l h.opening.numbers.lanes here.counted) e

  -- it stays there
  there-after : (p : List ℕ) → LaneThere (feeding h l p).after l
  there-after p = record {
    counted = rw (feeding-opening h l p) here.counted;
    text = rw (feeding-texts h l p) (go (ltb l h.opening.numbers.lanes) (lane_after (lane_of h l) p));
  }
    where
      go : (b : Bool) (x : Lane) → l < length (lanes_after b h.texts l x)
      go true x = rw (length-set h.texts l x) here.text
      go false x = here.text

  -- the lane with another text in it
  module _ (x : Lane) where
    lane_here : lane_of (with_lane h l x) l ≡ x
    unfolding lane_of with_lane
    lane_here = get_or-set_same h.texts l x (holding []) here.text

    lane_over : (y : Lane) → with_lane (with_lane h l x) l y ≡ with_lane h l y
    unfolding with_lane
    lane_over y = ap (λ (ts : List Lane). record { opening = h.opening; trees = h.trees; lengths = h.lengths; texts = ts }) (set-set h.texts l x y)

    judge-same : (y : Lane) → verdict (with_lane h l x) y ≡ verdict h y
    unfolding verdict with_lane
    judge-same (overrun q) = refl
    judge-same (holding s) = go (judged_with h.opening.numbers.kept h.opening.names s)
      where
        go : (v : Answer Branches) → with_room (record { opening = h.opening; trees = h.trees; lengths = h.lengths; texts = set h.texts l x }) v ≡ with_room h v
        go (refused k) = unfold with_room in refl
        go (gives t) = unfold with_room room_for new_splits in refl

    finish-same : (t : ℕ) (v : Answer Branches) → finishing (with_lane h l x) l t v ≡ finishing h l t v
    unfolding finishing finished recording with_tree with_lane
    finish-same t (refused k) =
        ap (λ (ts : List Lane). record { taken = t; answer = refused k; after = record { opening = h.opening; trees = h.trees; lengths = h.lengths; texts = ts } }) (set-set h.texts l x (holding []))
    finish-same t (gives s) =
        ap (λ (ts : List Lane). record { taken = t; answer = gives (accepted (length h.trees)); after = record { opening = h.opening; trees = h.trees ++ s.splits ∷ []; lengths = h.lengths ++ s.lengths ∷ []; texts = ts } })
        (set-set h.texts l x (holding []))

-- ---- a piece that ends no text, and one behind it

-- the same, with n bytes more taken
abbrev pub taken_more : ℕ → Fed → Fed
taken_more n f = record { taken = n + f.taken; answer = f.answer; after = f.after }

finish-more : (n : ℕ) (h : Held) (l t : ℕ) (v : Answer Branches) → taken_more n (finishing h l t v) ≡ finishing h l (n + t) v
unfolding finishing
finish-more n h l t v = refl

module _ (h : Held) (l : ℕ) (here : LaneThere h l) (p q : List ℕ) (e : ends_at h l p ≡ false) where
  abbrev o : Bool
  o = open_in (lane_of h l)

  abbrev x : Lane
  x = longer (lane_of h l) p

  there : LaneThere (with_lane h l x) l
  unfolding with_lane
  there = record { counted = here.counted; text = rw (length-set h.texts l x) here.text }

  -- the lane holds both
  both-held : (r : List ℕ) → longer (lane_of (with_lane h l x) l) r ≡ longer (lane_of h l) (p ++ r)
  both-held r = ap (λ (y : Lane). longer y r) (lane_here h l here x) ∙ longer-longer (lane_of h l) p r

  -- quotes that are open behind p are open before q
  both-open : open_in (lane_of (with_lane h l x) l) ≡ open_after o p
  both-open = ap open_in (lane_here h l here x) ∙ open-longer (lane_of h l) p

  both_ends : ends_at h l (p ++ q) ≡ ends_at (with_lane h l x) l q
  both_ends = has-append o p q ∙ ap (λ (t : Bool). t || has_end (open_after o p) q) e ∙ ap (λ (t : Bool). has_end t q) (sym both-open)

  both-last : last_part h l (p ++ q) ≡ p ++ last_part (with_lane h l x) l q
  both-last = before-right o p q e ∙ ap (λ (t : Bool). p ++ before_end t q) (sym both-open)

  open-both : ends_at (with_lane h l x) l q ≡ false → feeding h l (p ++ q) ≡ taken_more (length p) (feeding (with_lane h l x) l q)
  open-both f =
      fed-open h l here (p ++ q) (both_ends ∙ f)
      ∙ ap₂ (λ (n : ℕ) (k : Held). record { taken = n; answer = gives more_wanted; after = k }) (length-append p q)
      (sym (lane_over h l here x (longer (lane_of (with_lane h l x) l) q) ∙ ap (with_lane h l) (both-held q)))
      ∙ ap (taken_more (length p)) (sym (fed-open (with_lane h l x) l there q f))

  text-both : ends_at (with_lane h l x) l q ≡ true → feeding h l (p ++ q) ≡ taken_more (length p) (feeding (with_lane h l x) l q)
  text-both f =
      let r = last_part (with_lane h l x) l q in
      fed-text h l here (p ++ q) (both_ends ∙ f)
      ∙ ap (λ (v : List ℕ). finishing h l (suc (length v)) (verdict h (longer (lane_of h l) v))) both-last
      ∙ ap₂ (finishing h l) (omega (arith, length-append p r))
      (sym (judge-same h l here x (longer (lane_of (with_lane h l x) l) r) ∙ ap (verdict h) (both-held r)))
      ∙ sym (ap (taken_more (length p)) (fed-text (with_lane h l x) l there q f ∙ finish-same h l here x (suc (length r)) _)
      ∙ finish-more (length p) h l (suc (length r)) _)

  pub continued : feeding h l (p ++ q) ≡ taken_more (length p) (feeding (feeding h l p).after l q)
  continued = go (ends_at (with_lane h l x) l q) refl ∙ ap (λ (f : Fed). taken_more (length p) (feeding f.after l q)) (sym (fed-open h l here p e))
    where
      go : (t : Bool) → ends_at (with_lane h l x) l q ≡ t → feeding h l (p ++ q) ≡ taken_more (length p) (feeding (with_lane h l x) l q)
      go true f = text-both f
      go false f = open-both f

-- ---- batches

unfoldable pub joined : Batched → Batched → Batched
joined b c = record { verdicts = b.verdicts ++ c.verdicts; after = c.after }

pub batching-opening : (n : ℕ) (h : Held) (l : ℕ) (p : List ℕ) → (batching n h l p).after.opening ≡ h.opening
unfolding batching with_verdict
batching-opening zero h l p = feeding-opening h l p
batching-opening (suc n) h l p =
    batching-opening n (feeding h l p).after l (drop (feeding h l p).taken p) ∙ feeding-opening h l p

-- the texts that q ends, where p ends none
batching-continued : (m : ℕ) (h : Held) (l : ℕ) → LaneThere h l → (p q : List ℕ) → ends_at h l p ≡ false
    → batching m h l (p ++ q) ≡ batching m (feeding h l p).after l q
unfolding batching with_verdict
batching-continued zero h l here p q e = ap (λ (f : Fed). record { verdicts = []; after = f.after }) (continued h l here p q e)
batching-continued (suc m) h l here p q e =
    ap (λ (f : Fed). with_verdict (verdict_number f.answer) (batching m f.after l (drop f.taken (p ++ q)))) (continued h l here p q e)
    ∙ ap (λ (r : List ℕ). with_verdict (verdict_number (feeding (feeding h l p).after l q).answer) (batching m (feeding (feeding h l p).after l q).after l r))
    (drop-append-add p q (feeding (feeding h l p).after l q).taken)

-- a piece that ends a text: the first one, and what is behind it
module _ (h : Held) (l : ℕ) (here : LaneThere h l) (p : List ℕ) (e : ends_at h l p ≡ true) where
  pub first_taken : (feeding h l p).taken ≡ suc (length (last_part h l p))
  unfolding finishing
  first_taken = ap (λ (f : Fed). f.taken) (fed-text h l here p e)

  -- no quotes are open behind a text
  first-open : open_in (lane_of (feeding h l p).after l) ≡ false
  unfolding open_in open_after
  first-open = ap open_in (ap (λ (f : Fed). lane_of f.after l) (fed-text h l here p e) ∙ emptied (verdict h (longer (lane_of h l) (last_part h l p))))
    where
      emptied : (v : Answer Branches) → lane_of (finishing h l (suc (length (last_part h l p))) v).after l ≡ holding []
      emptied v =
          unfold finishing lane_of with_lane in
          ap (λ (ts : List Lane). get_or (set ts l (holding [])) l (holding [])) (recording-texts h v) ∙ get_or-set_same h.texts l (holding []) (holding []) here.text

  pub one-fed : texts_at h l p ≡ suc (texts_at (feeding h l p).after l (drop (feeding h l p).taken p))
  one-fed = one-text (open_in (lane_of h l)) p e ∙ ap₂ (λ (t : Bool) (n : ℕ). suc (texts_in t (drop n p))) (sym first-open) (sym first_taken)

  module _ (q : List ℕ) where
    first-same : feeding h l (p ++ q) ≡ feeding h l p
    first-same =
        let o = open_in (lane_of h l) in
        fed-text h l here (p ++ q) (has-append o p q ∙ ap (λ (t : Bool). t || has_end (open_after o p) q) e)
        ∙ ap (λ (v : List ℕ). finishing h l (suc (length v)) (verdict h (longer (lane_of h l) v))) (before-left o p q e)
        ∙ sym (fed-text h l here p e)

    first_rest : drop (feeding h l p).taken (p ++ q) ≡ drop (feeding h l p).taken p ++ q
    first_rest = drop-append-le (feeding h l p).taken p q (omega (arith, first_taken, end-inside (open_in (lane_of h l)) p e))

-- behind the first text of p quotes are open as behind p
open-behind : (q : Bool) (p : List ℕ) → has_end q p ≡ true → open_after q p ≡ open_after false (drop (suc (length (before_end q p))) p)
unfolding open_after has_end before_end
open-behind q [] e = absurd (true≢false (sym e))
open-behind q (b ∷ p) e = go (ends_text q b) refl (open-behind (turned q b) p) e
  where
    go : (t : Bool) → ends_text q b ≡ t → (has_end (turned q b) p ≡ true → open_after (turned q b) p ≡ open_after false (drop (suc (length (before_end (turned q b) p))) p))
        → (t || has_end (turned q b) p) ≡ true → open_after (turned q b) p ≡ open_after false (drop (length (if t then [] else b ∷ before_end (turned q b) p)) p)
    go true s f r = ap (λ (t : Bool). open_after t p) (end-turned q b s)
    go false s f r = f r

pub batching-open : (n : ℕ) (h : Held) (l : ℕ) → LaneThere h l → (p : List ℕ) → texts_at h l p ≡ n
    → open_in (lane_of (batching n h l p).after l) ≡ open_after (open_in (lane_of h l)) p
unfolding batching with_verdict
batching-open zero h l here p s =
    ap (λ (f : Fed). open_in (lane_of f.after l)) (fed-open h l here p (lacks-text (open_in (lane_of h l)) p s))
    ∙ ap open_in (lane_here h l here (longer (lane_of h l) p)) ∙ open-longer (lane_of h l) p
batching-open (suc n) h l here p s =
    let o = open_in (lane_of h l) in
    let e = has-text o p (omega arith) in
    let f = feeding h l p in
    batching-open n f.after l (there-after h l here p) (drop f.taken p) (omega (arith, one-fed h l here p e))
    ∙ ap₂ (λ (t : Bool) (k : ℕ). open_after t (drop k p)) (first-open h l here p e) (first_taken h l here p e)
    ∙ sym (open-behind o p e)

pub batching-append : (n m : ℕ) (h : Held) (l : ℕ) → LaneThere h l → (p q : List ℕ) → texts_at h l p ≡ n
    → batching (n + m) h l (p ++ q) ≡ joined (batching n h l p) (batching m (batching n h l p).after l q)
unfolding batching joined
batching-append zero m h l here p q s =
    ap (λ (k : ℕ). batching k h l (p ++ q)) (zero-add m) ∙ batching-continued m h l here p q (lacks-text (open_in (lane_of h l)) p s)
batching-append (suc n) m h l here p q s =
    let e = has-text (open_in (lane_of h l)) p (omega arith) in
    let f = feeding h l p in
    ap (λ (k : ℕ). batching k h l (p ++ q)) (suc-add n m)
    ∙ ap (λ (g : Fed). with_verdict (verdict_number g.answer) (batching (n + m) g.after l (drop g.taken (p ++ q)))) (first-same h l here p e q)
    ∙ ap (λ (r : List ℕ). with_verdict (verdict_number f.answer) (batching (n + m) f.after l r)) (first_rest h l here p e q)
    ∙ ap (with_verdict (verdict_number f.answer))
    (batching-append n m f.after l (there-after h l here p) (drop f.taken p) q (omega (arith, one-fed h l here p e)))
    ∙ (unfold with_verdict in refl)
