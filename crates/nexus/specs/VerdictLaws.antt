-- The verdict on a plain text, case by case. Assumes nothing.
--
--   text-over, text-refused, text-room     the verdict on a text that is too long; that is refused; that gives splits
--   judges-refused, judges-room     a refused text, with nothing changed; a text that gives splits: refused for want of room, or recorded
use Rattle.std.specs.Prelude.{ℕ, ◌≤◌, ◌<◌, ◌≡◌, true, false, List, take, Result, Option}
use Rattle.std.proofs.Math.Path.{refl, ap, subst}
use Rattle.std.proofs.Common.{sym, ◌∙◌, lt-ltb, le-ltb}
use Rattle.trees.specs.Plain.{Answer, refused, gives}
use Rattle.trees.specs.Verdict.{Branches, judged_with}
use Rattle.trees.specs.Held.{overrun, holding, most_text, room_for, with_room, verdict, finished, recording, accepted}
use Rattle.theorems.specs.ListLaws.{if-true, if-false}
use Rattle.answers.specs.Answers.{progress_given}
use Rattle.answers.specs.AnswerLaws.{gives≢refused}
use Rattle.head.specs.Head.{opening_at}
use Rattle.layout.specs.Store.{held_at, held_in}
use Rattle.layout.specs.WholeStore.{whole_at}
use Rattle.store.specs.RecordedAtLaws.{trees-length}
use Rattle.recording.specs.Recording.{Accepts}
use Rattle.nexus.specs.Verdicts.{lane_with, Judges}
use Rattle.answers.specs.declared.Refusal.{Refusal}
use Rattle.answers.specs.declared.Tree.{Tree}

module _ (s text : List ℕ) (n : ℕ) where
  abbrev verdict_there : Answer Branches
  verdict_there = verdict (held_at s) (lane_with n text)

  abbrev judged_here : Answer Branches
  judged_here = judged_with (opening_at s).numbers.kept (opening_at s).names (take n text)

  pub text-over : most_text < n → verdict_there ≡ refused 6
  unfolding verdict
  text-over h = ap (verdict (held_at s)) (if-true (overrun false) (holding (take n text)) (lt-ltb _ _ h))

  text-fits : n ≤ most_text → verdict_there ≡ with_room (held_at s) judged_here
  unfolding verdict held_in
  text-fits h = ap (verdict (held_at s)) (if-false (overrun false) (holding (take n text)) (le-ltb _ _ h))

  pub text-refused : n ≤ most_text → (k : ℕ) → judged_here ≡ refused k → verdict_there ≡ refused k
  unfolding with_room
  text-refused h k e = text-fits h ∙ ap (with_room (held_at s)) e

  pub text-room : n ≤ most_text → (x : Branches) → judged_here ≡ gives x → verdict_there ≡ room_for (held_at s) x
  unfolding with_room
  text-room h x e = text-fits h ∙ ap (with_room (held_at s)) e

  module _ (w : whole_at s ≡ true) where
    pub judges-refused : (r : Result (Option Tree) Refusal) (k : ℕ) → verdict_there ≡ refused k → progress_given r ≡ refused k → Judges s text n r s
    unfolding finished recording
    judges-refused r k v e = record {
      answer = rw v e;
      holds = rw v (record { whole = w; held = refl; size = refl; behind = λ i h. refl });
      found = λ j q. refl;
    }

    pub judges-room : (x y : Branches) (t : List ℕ) (r : Result (Option Tree) Refusal) → y ≡ x → verdict_there ≡ room_for (held_at s) x → Accepts (room_for (held_at s) y) s r t → Judges s text n r t
    judges-room x y t r d v g = go (room_for (held_at s) x) refl (subst (λ (z : Branches). Accepts (room_for (held_at s) z) s r t) d g)
      where
        go : (z : Answer Branches) → room_for (held_at s) x ≡ z → Accepts (room_for (held_at s) x) s r t → Judges s text n r t
        go (refused k) e q =
            unfold Accepts in
            let p = subst (λ (z : Answer Branches). Accepts z s r t) e q in
            subst (Judges s text n r) (sym p.1) (judges-refused r k (v ∙ e) p.0)
        go (gives u) e q =
            unfold Accepts finished recording in
            let p = subst (λ (z : Answer Branches). Accepts z s r t) e q in
            record {
              answer = rw (v ∙ e) (p.0 ∙ ap (λ (m : ℕ). gives (accepted m)) (sym (trees-length s)));
              holds = rw (v ∙ e) p.1;
              found = λ j o. absurd (gives≢refused u j (sym (v ∙ e) ∙ o));
            }
