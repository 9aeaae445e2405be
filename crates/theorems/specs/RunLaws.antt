-- Laws of runs of calls.
--
--   more-exactly                    "more wanted" exactly when a piece ends no text
--   ending-append, answers-append   a run in two parts
--   ending-opening                  the opening stays
--   ending-whole, run-whole         from an accepted opening on, a collection is whole after every run
--   lanes-hold-pending              every lane holds the bytes fed to it since its last text ended or it was closed, or ran over
use Rattle.std.specs.Prelude.{ℕ, ◌≡◌, ◌↔◌, Bool, ltb, length, set, replicate, if◌then◌else◌}
use Rattle.std.proofs.Common.{arith, ap₂, sym, ◌∙◌, subst, true≢false, ltb-false}
use Rattle.std.proofs.Math.Path.{refl, ap}
use Rattle.std.proofs.Math.Bool.{true, false}
use mathlib.Core.List.{List, [], ◌∷◌, ◌++◌, map}
use Rattle.std.proofs.Math.ListN.{get_or, length-set, get_or-map}
use Rattle.std.proofs.lemmas.List.{length-replicate}
use Rattle.std.proofs.Math.Seq.{set_out}
use Rattle.trees.specs.Plain.{Answer, refused, gives}
use Rattle.trees.specs.Text.{has_end}
use Rattle.trees.specs.Opening.{Numbers, Opening, opening}
use Rattle.trees.specs.Verdict.{Branches}
use Rattle.trees.specs.Held.{Held, Lane, holding, opened, lane_of, longer, verdict, Progress, more_wanted, accepted, Fed, finished, recording, finishing, feeding, closing}
use Rattle.trees.specs.NexusCall.{on_text}
use Rattle.trees.specs.Withdrawing.{withdrawing}
use Rattle.theorems.specs.WholeHeld.{whole}
use Rattle.theorems.specs.HeldLaws.{opened-whole, feeding-whole, handed-whole, closing-whole, withdrawing-whole}
use Rattle.theorems.specs.WithdrawLaws.{withdrawing-opening, withdrawing-texts}
use Rattle.theorems.specs.FeedingLaws.{ends_at, last_part, feeding_by, feeding-by}
use Rattle.theorems.specs.OwnLaneLaws.{lane_after, lanes_after, recording-opening, recording-texts, feeding-opening, feeding-texts, closing-opening, closing-texts}
use Rattle.theorems.specs.PieceLaws.{longer-longer, text, open-text, map-set, map-replicate}
use Rattle.trees.specs.Runs.{Call, feed, hand, close, withdraw, Heard, answer, next, answers, ending, ends_in, pending_after}

-- ---- which answers are verdicts

-- an answer that is not "more wanted"
abbrev Settled : Answer Progress → Type 0
Settled (refused k) = Unit {0}
Settled (gives more_wanted) = ⊥
Settled (gives (accepted t)) = Unit {0}

finished-settled : (h : Held) (v : Answer Branches) → Settled (finished h v)
unfolding finished
finished-settled h (refused k) = tt
finished-settled h (gives b) = tt

-- a piece to a lane that exists: its answer is a verdict exactly when it ends a text
pub more-exactly : (h : Held) (l : ℕ) (p : List ℕ) → ltb l h.opening.numbers.lanes ≡ true → ((feeding h l p).answer ≡ gives more_wanted) ↔ (ends_at h l p ≡ false)
unfolding finishing
more-exactly h l p e = go (ends_at h l p) refl
  where
    answered : (c : Bool) → ends_at h l p ≡ c → (feeding h l p).answer ≡ (feeding_by true c h l p).answer
    answered c f = ap (λ (r : Fed). r.answer) (feeding-by h l p ∙ ap₂ (λ (x y : Bool). feeding_by x y h l p) e f)

    go : (c : Bool) → ends_at h l p ≡ c → ((feeding h l p).answer ≡ gives more_wanted) ↔ (c ≡ false)
    go true f = ((λ q. absurd (subst Settled (sym (answered true f) ∙ q) (finished-settled h (verdict h (longer (lane_of h l) (last_part h l p)))))), λ q. absurd (true≢false q))
    go false f = ((λ q. refl), λ q. answered false f)

-- ---- a run in two parts

pub ending-append : (h : Held) (cs ds : List Call) → ending h (cs ++ ds) ≡ ending (ending h cs) ds
unfolding ending
ending-append h [] ds = refl
ending-append h (c ∷ cs) ds = ending-append (next h c) cs ds

pub answers-append : (h : Held) (cs ds : List Call) → answers h (cs ++ ds) ≡ answers h cs ++ answers (ending h cs) ds
unfolding answers ending
answers-append h [] ds = refl
answers-append h (c ∷ cs) ds = ap (λ (r : List Heard). answer h c ∷ r) (answers-append (next h c) cs ds)

-- ---- what stays

pub ending-opening : (h : Held) (cs : List Call) → (ending h cs).opening ≡ h.opening
unfolding ending next
ending-opening h [] = refl
ending-opening h (feed l p ∷ cs) = ending-opening (feeding h l p).after cs ∙ feeding-opening h l p
ending-opening h (hand t ∷ cs) = ending-opening (recording h (on_text h t)) cs ∙ recording-opening h (on_text h t)
ending-opening h (close l ∷ cs) = ending-opening (closing h l).after cs ∙ closing-opening h l
ending-opening h (withdraw k ∷ cs) = ending-opening (withdrawing h k).after cs ∙ withdrawing-opening h k

pub ending-whole : (h : Held) (cs : List Call) → whole h ≡ true → whole (ending h cs) ≡ true
unfolding ending next
ending-whole h [] w = w
ending-whole h (feed l p ∷ cs) w = ending-whole (feeding h l p).after cs (feeding-whole h l p w)
ending-whole h (hand t ∷ cs) w = ending-whole (recording h (on_text h t)) cs (handed-whole h t w)
ending-whole h (close l ∷ cs) w = ending-whole (closing h l).after cs (closing-whole h l w)
ending-whole h (withdraw k ∷ cs) w = ending-whole (withdrawing h k).after cs (withdrawing-whole h k w)

pub run-whole : (x : Numbers) (name_list first second : List ℕ) (lent : ℕ) (o : Opening) → opening x name_list first second lent ≡ gives o → (cs : List Call) → whole (ending (opened o) cs) ≡ true
run-whole x name_list first second lent o e cs = ending-whole (opened o) cs (opened-whole x name_list first second lent o e)

-- ---- pending bytes

-- the bytes us of each lane, which was empty before them
record Holds (h : Held) (us : List (List ℕ)) : Type 0 where
  many : length us ≡ h.opening.numbers.lanes
  lanes : h.texts ≡ map text us

module _ (h : Held) (us : List (List ℕ)) (d : Holds h us) (l : ℕ) where
  holds-lane : lane_of h l ≡ text (get_or us l [])
  unfolding lane_of longer
  holds-lane = ap (λ (xs : List Lane). get_or xs l (holding [])) d.lanes ∙ get_or-map text us l []

  holds-piece : (p : List ℕ) → lane_after (lane_of h l) p ≡ text (if ends_in us l p then [] else get_or us l [] ++ p)
  unfolding longer ends_in
  holds-piece p =
      ap (λ (x : Lane). lane_after x p) holds-lane ∙ ap (λ (q : Bool). if has_end q p then holding [] else longer (text (get_or us l [])) p) (open-text (get_or us l []))
      ∙ go (ends_in us l p)
    where
      go : (c : Bool) → (if c then holding [] else longer (text (get_or us l [])) p) ≡ text (if c then [] else get_or us l [] ++ p)
      go true = refl
      go false = longer-longer (holding []) (get_or us l []) p

  holds-set : (w : List ℕ) → lanes_after (ltb l h.opening.numbers.lanes) h.texts l (text w) ≡ map text (set us l w)
  holds-set w = ap (λ (xs : List Lane). lanes_after (ltb l h.opening.numbers.lanes) xs l (text w)) d.lanes ∙ go (ltb l h.opening.numbers.lanes) refl
    where
      go : (b : Bool) → ltb l h.opening.numbers.lanes ≡ b → lanes_after b (map text us) l (text w) ≡ map text (set us l w)
      go true e = sym (map-set text us l w)
      go false e = ap (map text) (sym (set_out us l w (omega (arith, d.many, ltb-false l h.opening.numbers.lanes e))))

  holds-fed : (p : List ℕ) → Holds (feeding h l p).after (set us l (if ends_in us l p then [] else get_or us l [] ++ p))
  holds-fed p =
      let w = if ends_in us l p then [] else get_or us l [] ++ p in
      record {
        many = length-set us l w ∙ d.many ∙ λ i. (sym (feeding-opening h l p) i).numbers.lanes;
        lanes = feeding-texts h l p ∙ ap (lanes_after (ltb l h.opening.numbers.lanes) h.texts l) (holds-piece p) ∙ holds-set w;
      }

  holds-closed : Holds (closing h l).after (set us l [])
  unfolding longer
  holds-closed = record { many = length-set us l [] ∙ d.many ∙ λ i. (sym (closing-opening h l) i).numbers.lanes; lanes = closing-texts h l ∙ holds-set [] }

holds-handed : (h : Held) (us : List (List ℕ)) → Holds h us → (t : List ℕ) → Holds (recording h (on_text h t)) us
holds-handed h us d t =
    record {
      many = d.many ∙ λ i. (sym (recording-opening h (on_text h t)) i).numbers.lanes;
      lanes = recording-texts h (on_text h t) ∙ d.lanes;
    }

holds-withdrawn : (h : Held) (us : List (List ℕ)) → Holds h us → (k : ℕ) → Holds (withdrawing h k).after us
holds-withdrawn h us d k = record { many = d.many ∙ λ i. (sym (withdrawing-opening h k) i).numbers.lanes; lanes = withdrawing-texts h k ∙ d.lanes }

holds_after : (h : Held) (us : List (List ℕ)) → Holds h us → (cs : List Call) → Holds (ending h cs) (pending_after us cs)
unfolding ending next pending_after
holds_after h us d [] = d
holds_after h us d (feed l p ∷ cs) = holds_after (feeding h l p).after (set us l (if ends_in us l p then [] else get_or us l [] ++ p)) (holds-fed h us d l p) cs
holds_after h us d (hand t ∷ cs) = holds_after (recording h (on_text h t)) us (holds-handed h us d t) cs
holds_after h us d (close l ∷ cs) = holds_after (closing h l).after (set us l []) (holds-closed h us d l) cs
holds_after h us d (withdraw k ∷ cs) = holds_after (withdrawing h k).after us (holds-withdrawn h us d k) cs

pub lanes-hold-pending : (o : Opening) (cs : List Call) → (ending (opened o) cs).texts ≡ map (longer (holding [])) (pending_after (replicate o.numbers.lanes []) cs)
unfolding opened longer
lanes-hold-pending o cs =
    (holds_after (opened o) (replicate o.numbers.lanes []) (record {
      many = length-replicate o.numbers.lanes [];
      lanes = sym (map-replicate text o.numbers.lanes []);
    }) cs).lanes
