-- A NEXUS file among the calls: it is its plain texts, handed in one after another. Assumes nothing.
--
--   handing-ends, handing-hears, handing-judges     texts that are handed in hold, answer and judge what these calls do
--   file-after            a file holds what the texts hold that it hands in
--   file-verdicts         its verdicts are theirs
--   file-same             collections that answer these texts alike answer the file alike
use Rattle.std.specs.Prelude.{ℕ, suc, ◌≡◌, Bool, ltb, length, if◌then◌else◌}
use Rattle.std.proofs.Math.Path.{refl, ap}
use Rattle.std.proofs.Common.{sym, ◌∙◌}
use Rattle.std.proofs.Math.Bool.{true, false}
use mathlib.Core.List.{List, [], ◌∷◌, ◌++◌, map}
use Rattle.std.proofs.Math.Option.{Option, none, some}
use Rattle.std.proofs.Math.ListN.{drop}
use Rattle.std.proofs.Math.Seq.{take-append_seam}
use Rattle.trees.specs.Plain.{Answer, refused, gives}
use Rattle.trees.specs.Names.{different}
use Rattle.trees.specs.Held.{Held, holding, longer, finished, recording}
use Rattle.trees.specs.Batch.{verdict_number, Batched, with_verdict}
use Rattle.trees.specs.Nexus.{File}
use Rattle.trees.specs.NexusReading.{read_file}
use Rattle.trees.specs.NexusCall.{keys_of, plain_texts, on_text, handing, handed_in, nexus}
use Rattle.trees.specs.Runs.{hand, Heard, answer, next, answers, ending, Final, finals}
use Rattle.theorems.specs.NexusFedLaws.{heard_verdict}
use Rattle.answers.specs.Filled.{length_given, front}
use Rattle.promises.specs.Calls.{file, Told, batched, numbers_in, after_batch, told, texts_for, file_texts, verdict_of, verdicts_told}
use Rattle.promises.specs.VerdictNumbers.{verdict-small, finished-settled, settled-read}

-- ---- the texts that are handed in

pub handing-ends : (h : Held) (ts : List (List ℕ)) → (handing h ts).after ≡ ending h (map hand ts)
unfolding handing with_verdict ending next
handing-ends h [] = refl
handing-ends h (t ∷ ts) = handing-ends (recording h (on_text h t)) ts

pub handing-hears : (h : Held) (ts : List (List ℕ)) → (handing h ts).verdicts ≡ map heard_verdict (answers h (map hand ts))
unfolding handing with_verdict answers answer next heard_verdict
handing-hears h [] = refl
handing-hears h (t ∷ ts) = ap (λ (vs : List ℕ). verdict_number (finished h (on_text h t)) ∷ vs) (handing-hears (recording h (on_text h t)) ts)

pub handing-judges : (h : Held) (ts : List (List ℕ)) → map verdict_of (handing h ts).verdicts ≡ finals (answers h (map hand ts))
unfolding handing with_verdict answers answer next finals on_text
handing-judges h [] = refl
handing-judges h (t ∷ ts) =
    let s = finished-settled h (on_text h t) (verdict-small h (longer (holding []) t)) in
    ap (λ (vs : List Final). verdict_of (verdict_number (finished h (on_text h t))) ∷ vs) (handing-judges (recording h (on_text h t)) ts)
    ∙ sym (settled-read (suc (length t)) (finished h (on_text h t)) s (answers (recording h (on_text h t)) (map hand ts)))

-- ---- a file

-- what a file gives that is read as o, and the texts that it hands in
abbrev given : Held → ℕ → Option File → Answer Batched
given h room o = elim o as (λ _. Answer Batched) [ none ↦ refused 15 | some x ↦ handed_in h x room ]

abbrev texts : ℕ → Option File → List (List ℕ)
texts room o = elim o as (λ _. List (List ℕ)) [ none ↦ [] | some x ↦ texts_for x room ]

-- what holds of the three refusals, which hand in nothing, and of the texts that are handed in
by-file : (P : Answer Batched → List (List ℕ) → Type 0) (h : Held) (f : List ℕ) (room : ℕ)
    → ((k : ℕ) → P (refused k) []) → ((ts : List (List ℕ)) → P (gives (handing h ts)) ts) → P (nexus h f room) (file_texts f room)
unfolding nexus file_texts
by-file P h f room r g = go (read_file f)
  where
    some-file : (x : File) (b c : Bool)
        → P (if b then if c then refused 4 else gives (handing h (plain_texts x)) else refused 16) (if b then if c then [] else plain_texts x else [])
    some-file x true true = r 4
    some-file x true false = g (plain_texts x)
    some-file x false c = r 16

    go : (o : Option File) → P (given h room o) (texts room o)
    go none = r 15
    go (some x) = unfold handed_in texts_for in some-file x (different (keys_of x.pairs)) (ltb room (length x.texts))

pub file-after : (h : Held) (f : List ℕ) (room : ℕ) → after_batch h (nexus h f room) ≡ ending h (map hand (file_texts f room))
unfolding after_batch ending
file-after h f room = by-file (λ a ts. after_batch h a ≡ ending h (map hand ts)) h f room (λ k. refl) (λ ts. handing-ends h ts)

-- what is told of a file that gives a
abbrev told_of : Answer Batched → List ℕ → Told
told_of a v = batched (length_given (numbers_in a)) (front (numbers_in a) v)

pub file-verdicts : (lent : ℕ) (h : Held) (f v : List ℕ) (rest : List Told)
    → verdicts_told (told lent h (file f v) ∷ rest) ≡ finals (answers h (map hand (file_texts f (length v)))) ++ verdicts_told rest
unfolding told verdicts_told numbers_in length_given front answers finals
file-verdicts lent h f v rest =
    by-file (λ a ts. verdicts_told (told_of a v ∷ rest) ≡ finals (answers h (map hand ts)) ++ verdicts_told rest) h f (length v)
    (λ k. refl)
    (λ ts.
    ap (λ (vs : List ℕ). map verdict_of vs ++ verdicts_told rest) (take-append_seam (handing h ts).verdicts (drop (length (handing h ts).verdicts) v))
    ∙ ap (λ (vs : List Final). vs ++ verdicts_told rest) (handing-judges h ts))

-- ---- what is told of a file, from what is heard of its texts

abbrev heard_file : Bool → Bool → List Heard → List ℕ → Told
heard_file true true as' v = batched (refused 4) v
heard_file true false as' v = let vs = map heard_verdict as' in batched (gives (length vs)) (vs ++ drop (length vs) v)
heard_file false c as' v = batched (refused 16) v

abbrev heard_of : ℕ → Option File → List Heard → List ℕ → Told
heard_of room o as' v =
    elim o as (λ _. Told) [ none ↦ batched (refused 15) v | some x ↦ heard_file (different (keys_of x.pairs)) (ltb room (length x.texts)) as' v ]

file-told : (lent : ℕ) (h : Held) (f v : List ℕ)
    → told lent h (file f v) ≡ heard_of (length v) (read_file f) (answers h (map hand (file_texts f (length v)))) v
unfolding told nexus file_texts
file-told lent h f v = go (read_file f)
  where
    some-file : (x : File) (b c : Bool)
        → told_of (if b then if c then refused 4 else gives (handing h (plain_texts x)) else refused 16) v
        ≡ heard_file b c (answers h (map hand (if b then if c then [] else plain_texts x else []))) v
    some-file x true true = unfold numbers_in length_given front in refl
    some-file x true false =
        unfold numbers_in length_given front in
        ap (λ (vs : List ℕ). batched (gives (length vs)) (vs ++ drop (length vs) v)) (handing-hears h (plain_texts x))
    some-file x false c = unfold numbers_in length_given front in refl

    go : (o : Option File) → told_of (given h (length v) o) v ≡ heard_of (length v) o (answers h (map hand (texts (length v) o))) v
    go none = unfold numbers_in length_given front in refl
    go (some x) = unfold handed_in texts_for in some-file x (different (keys_of x.pairs)) (ltb (length v) (length x.texts))

pub file-same : (lent : ℕ) (h k : Held) (f v : List ℕ) → answers h (map hand (file_texts f (length v))) ≡ answers k (map hand (file_texts f (length v)))
    → told lent h (file f v) ≡ told lent k (file f v)
file-same lent h k f v e =
    file-told lent h f v ∙ ap (λ (as' : List Heard). heard_of (length v) (read_file f) as' v) e ∙ sym (file-told lent k f v)
