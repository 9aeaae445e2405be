-- Handing in a NEXUS file is feeding its plain texts, each with a semicolon, one after another to an empty lane. Assumes nothing.
--
--   heard_verdict a, heard_taken a     the verdict that an answer is, as a number; how many bytes it took
--   fed_to l ts          the texts ts fed to lane l, each with its semicolon
--   handing-lanes       handing in texts changes no lane
--   text-after, text-heard     a text with its semicolon, fed to an empty lane, leaves and answers what it does handed in
--   EmptyLane h l       the lane l is there, and empty
--   FedAs h l ts b      the verdicts and the collection of b are those of the texts ts fed to lane l, each taken whole
--   handing-as-feeding     texts in which none ends, handed in, are so fed
--   nexus-as-feeding       so are the plain texts of a file
use Rattle.std.specs.Prelude.{ℕ, zero, suc, ◌≡◌, refl, Bool, true, false, ltb, length, get_or, set}
use Rattle.std.proofs.Math.Path.{ap, ap₂, subst}
use Rattle.std.proofs.Common.{sym, ◌∙◌, inl, inr}
use mathlib.Core.List.{List, [], ◌∷◌, ◌++◌, map}
use Rattle.std.proofs.Math.Option.{Option, none, some}
use Rattle.trees.specs.Plain.{Answer, refused, gives}
use Rattle.trees.specs.Text.{semicolon, open_after, has_end, before_end}
use Rattle.trees.specs.Names.{different}
use Rattle.trees.specs.Verdict.{Branches}
use Rattle.trees.specs.Held.{Held, Lane, holding, lane_of, with_lane, open_in, longer, verdict, Fed, finished, recording, finishing, feeding}
use Rattle.trees.specs.Batch.{verdict_number, Batched, with_verdict}
use Rattle.trees.specs.Runs.{Call, feed, Heard, fed, closed_lane, withdrew, answer, next, answers, ending}
use Rattle.trees.specs.Nexus.{File, IsNexus}
use Rattle.trees.specs.NexusReading.{read_file}
use Rattle.trees.specs.NexusCall.{keys_of, plain_texts, on_text, handing, handed_in, nexus}
use Rattle.theorems.specs.ListLaws.{by-test}
use Rattle.theorems.specs.QuoteLaws.{before-end, has_end_lem}
use Rattle.theorems.specs.OutsideLaws.{leads-open, leads-unended}
use Rattle.theorems.specs.FeedingLaws.{ends_at, last_part, feeding_by, feeding-by}
use Rattle.theorems.specs.OwnLaneLaws.{recording-opening, recording-texts}
use Rattle.theorems.specs.NexusLaws.{read-exactly}
use Rattle.theorems.specs.NexusTextLaws.{Unended, AllUnended, plain-unended}

-- ---- what is handed in, as calls

unfoldable pub heard_verdict : Heard → ℕ
unfolding verdict_number
heard_verdict (fed n a) = verdict_number a
heard_verdict (closed_lane a) = 0
heard_verdict (withdrew a) = 0

unfoldable pub heard_taken : Heard → ℕ
heard_taken (fed n a) = n
heard_taken (closed_lane a) = 0
heard_taken (withdrew a) = 0

abbrev pub fed_to : ℕ → List (List ℕ) → List Call
fed_to l ts = map (λ t. feed l (t ++ semicolon ∷ [])) ts

-- ---- no lane changes

pub handing-lanes : (h : Held) (ts : List (List ℕ)) → (handing h ts).after.texts ≡ h.texts
unfolding handing with_verdict
handing-lanes h [] = refl
handing-lanes h (t ∷ ts) = handing-lanes (recording h (on_text h t)) ts ∙ recording-texts h (on_text h t)

-- ---- one text

set_same : {A : Type 0} (xs : List A) (i : ℕ) (x : A) → get_or xs i x ≡ x → set xs i x ≡ xs
set_same [] i x e = refl
set_same {A} (y ∷ xs) zero x e = ap (λ (z : A). z ∷ xs) (sym e)
set_same {A} (y ∷ xs) (suc i) x e = ap (λ (l : List A). y ∷ l) (set_same xs i x e)

-- an empty lane emptied
lane-emptied : (h : Held) (l : ℕ) → lane_of h l ≡ holding [] → with_lane h l (holding []) ≡ h
unfolding with_lane lane_of
lane-emptied h l e = ap (λ (xs : List Lane). record { opening = h.opening; trees = h.trees; lengths = h.lengths; texts = xs }) (set_same h.texts l (holding []) e)

-- a lane that is there, and empty
pub record EmptyLane (h : Held) (l : ℕ) : Type 0 where
  pub there : ltb l h.opening.numbers.lanes ≡ true
  pub empty : lane_of h l ≡ holding []

pub empty-kept : (h : Held) (l : ℕ) (v : Answer Branches) → EmptyLane h l → EmptyLane (recording h v) l
unfolding lane_of
empty-kept h l v e =
    record {
      there = ap (λ o. ltb l o.numbers.lanes) (recording-opening h v) ∙ e.there;
      empty = ap (λ (xs : List Lane). get_or xs l (holding [])) (recording-texts h v) ∙ e.empty;
    }

module _ (h : Held) (l : ℕ) (e : EmptyLane h l) (t : List ℕ) (u : Unended t) where
  lane-closed : open_in (lane_of h l) ≡ false
  unfolding open_in open_after
  lane-closed = ap open_in e.empty

  text-ends : ends_at h l (t ++ 59 ∷ []) ≡ true
  text-ends = ap (λ (q : Bool). has_end q (t ++ 59 ∷ [])) lane-closed ∙ has_end_lem [] false t (leads-open u)

  text-before : last_part h l (t ++ 59 ∷ []) ≡ t
  text-before = ap (λ (q : Bool). before_end q (t ++ 59 ∷ [])) lane-closed ∙ before-end [] false t (leads-unended u) (leads-open u)

  text-fed : feeding h l (t ++ 59 ∷ []) ≡ finishing h l (suc (length t)) (on_text h t)
  unfolding on_text
  text-fed =
      feeding-by h l (t ++ 59 ∷ []) ∙ ap₂ (λ (x y : Bool). feeding_by x y h l (t ++ 59 ∷ [])) e.there text-ends
      ∙ ap₂ (λ (w : List ℕ) (x : Lane). finishing h l (suc (length w)) (verdict h (longer x w))) text-before e.empty

  pub text-after : (feeding h l (t ++ 59 ∷ [])).after ≡ recording h (on_text h t)
  unfolding finishing
  text-after = ap (λ (r : Fed). r.after) text-fed ∙ lane-emptied (recording h (on_text h t)) l (empty-kept h l (on_text h t) e).empty

  pub text-heard : answer h (feed l (t ++ 59 ∷ [])) ≡ fed (suc (length t)) (finished h (on_text h t))
  unfolding answer finishing
  text-heard = ap (λ (r : Fed). fed r.taken r.answer) text-fed

-- ---- all texts

pub record FedAs (h : Held) (l : ℕ) (ts : List (List ℕ)) (b : Batched) : Type 0 where
  pub held : b.after ≡ ending h (fed_to l ts)
  pub heard : b.verdicts ≡ map heard_verdict (answers h (fed_to l ts))
  pub taken : map heard_taken (answers h (fed_to l ts)) ≡ map (λ t. suc (length t)) ts

pub handing-as-feeding : (h : Held) (l : ℕ) → EmptyLane h l → (ts : List (List ℕ)) → AllUnended ts → FedAs h l ts (handing h ts)
unfolding handing with_verdict answers ending next heard_verdict heard_taken
handing-as-feeding h l e [] u = record { held = refl; heard = refl; taken = refl }
handing-as-feeding h l e (t ∷ ts) u =
    let f = u t (inl refl) in
    let k = recording h (on_text h t) in
    let rest = handing-as-feeding k l (empty-kept h l (on_text h t) e) ts (λ w m. u w (inr m)) in
    let a = text-after h l e t f in
    let s = text-heard h l e t f in
    record {
      held = rest.held ∙ ap (λ (x : Held). ending x (fed_to l ts)) (sym a);
      heard = ap₂ (λ (v : ℕ) (vs : List ℕ). v ∷ vs) (ap heard_verdict (sym s)) (rest.heard ∙ ap (λ (x : Held). map heard_verdict (answers x (fed_to l ts))) (sym a));
      taken = ap₂ (λ (v : ℕ) (vs : List ℕ). v ∷ vs) (ap heard_taken s) (ap (λ (x : Held). map heard_taken (answers x (fed_to l ts))) a ∙ rest.taken);
    }

-- ---- a file

-- where it is not refused
abbrev FileFed : Held → ℕ → List (List ℕ) → Answer Batched → Type 0
FileFed h l ts (refused k) = Unit {0}
FileFed h l ts (gives b) = FedAs h l ts b

module _ (h : Held) (l : ℕ) (e : EmptyLane h l) where
  handed-fed : (x : File) (room : ℕ) → AllUnended (plain_texts x) → FileFed h l (plain_texts x) (handed_in h x room)
  unfolding handed_in
  handed-fed x room u =
      by-test (FileFed h l (plain_texts x)) (different (keys_of x.pairs))
      (λ d. by-test (FileFed h l (plain_texts x)) (ltb room (length x.texts)) (λ r. tt) (λ r. handing-as-feeding h l e (plain_texts x) u)) (λ d. tt)

  pub nexus-as-feeding : (f : List ℕ) (x : File) → IsNexus f x → (room : ℕ) (b : Batched) → nexus h f room ≡ gives b → FedAs h l (plain_texts x) b
  unfolding nexus
  nexus-as-feeding f x i room b g =
      let r : read_file f ≡ some x = (read-exactly f x).1 i in
      let handed : nexus h f room ≡ handed_in h x room = ap (λ (o : Option File). elim o as (λ _. Answer Batched) [ none ↦ refused 15 | some y ↦ handed_in h y room ]) r in
      subst (FileFed h l (plain_texts x)) (sym handed ∙ g) (handed-fed x room (plain-unended i))
