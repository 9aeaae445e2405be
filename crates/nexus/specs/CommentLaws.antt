-- Laws of comments and blanks, a turn of the code at a time. Assumes nothing.
-- Bytes: 91 `[` and 93 `]` begin and end a comment, which reads as 32, a blank.
--
--   Others s x i r        none of the bytes of s from i up to r is x
--   others-none, others-more     no byte, and one byte more
--   next_here, next-none  the next byte x is found, or there is none
--   comment-ended         the comment ends at the next bracket, or never
--   blank-open, blank-comment, blank-here, blank_none     what stands at a place: a comment that never ends, a comment, a blank, another byte
--   Blanks s i r          blanks and comments stand from i up to r
--   blanks-none, blanks-more     none, and one more
--   skipped-here, skipped-all     they end at a byte, or at the file's end
use Rattle.std.specs.Prelude.{ℕ, ◌+◌, ◌≤◌, ◌<◌, ◌≡◌, refl, Bool, true, false, not, List, [], ◌∷◌, ◌++◌, length, drop}
use native.Mathlib.Omega.{arith}
use Rattle.std.proofs.Common.{sym, ◌∙◌, append_assoc, append-nil, drop_of_length-le, ne_eqb}
use Rattle.std.proofs.Math.Path.{ap}
use Rattle.std.proofs.Math.Bool.{true≢false}
use Rattle.std.proofs.Math.ListN.{get_or}
use Rattle.trees.specs.Plain.{every, byte, member, bytes}
use Rattle.trees.specs.Text.{is_blank}
use Rattle.trees.specs.Nexus.{behind_run, begins, uncommented, behind_comment}
use Rattle.theorems.specs.ListLaws.{and_left, and_right, and-true}
use Rattle.theorems.specs.RunOfLaws.{behind-here, behind-over}
use Rattle.nexus.specs.Places.{part, plain_at, other, NextByte, CommentEnd, BlankEnd, Skipped}
use Rattle.nexus.specs.PartLaws.{part_none, part-more, part-rest}
use Rattle.nexus.specs.ByteLaws.{comment-closed, comment-open}
use Rattle.nexus.specs.PlaceLaws.{plain-none, plain-front, plain_byte, plain-comment}

-- ---- the next byte

pub record Others (s : List ℕ) (x i r : ℕ) : Type 0 where
  pub past : i ≤ r
  pub within : r ≤ length s
  pub each : every (other x) (part i r s) ≡ true

every_more : (p : ℕ → Bool) (a : List ℕ) (b : ℕ) → every p a ≡ true → p b ≡ true → every p (a ++ (b ∷ [])) ≡ true
unfolding every
every_more p [] b e f = and-true f refl
every_more p (x ∷ a) b e f = and-true (and_left (p x) (every p a) e) (every_more p a b (and_right (p x) (every p a) e) f)

pub others-none : (s : List ℕ) (x i : ℕ) → i ≤ length s → Others s x i i
unfolding every
others-none s x i h = record { past = omega arith; within = h; each = ap (every (other x)) (part_none s i i refl) }

module _ (s : List ℕ) (x i r : ℕ) (d : Others s x i r) where
  pub others-more : r < length s → (get_or s r 0 ≡ x → ⊥) → Others s x i (r + 1)
  others-more h n =
      record {
        past = omega (arith, d.past);
        within = omega arith;
        each = rw (part-more s i r d.past h) (every_more (other x) (part i r s) (get_or s r 0) d.each (ap not (ne_eqb _ _ n)));
      }

  pub next_here : r < length s → get_or s r 0 ≡ x → NextByte s x i (r + 1)
  next_here h e =
      record {
        found = λ _. (omega (arith, d.past), part i r s, part-more s i r d.past h ∙ ap (λ (b : ℕ). part i r s ++ (b ∷ [])) e, d.each);
        lacking = λ g. absurd (omega arith);
      }

  pub next-none : length s ≤ r → NextByte s x i (length s + 1)
  next-none h =
      record {
        found = λ g. absurd (omega arith);
        lacking = λ _. (refl, ap (every (other x)) (part-rest s i r d.past ∙ ap (λ (l : List ℕ). part i r s ++ l) (drop_of_length-le s h) ∙ append-nil (part i r s)) ∙ d.each);
      }

-- ---- one comment

pub comment-ended : (s : List ℕ) (i r : ℕ) → NextByte s 93 i r → CommentEnd s i r
comment-ended s i r n =
    record {
      closed = λ g. ((n.found g).0, ap behind_comment (part-rest s i r (omega (arith, (n.found g).0))) ∙ alone g (drop r s));
      unclosed = λ g. ((n.lacking g).0, comment-open (drop i s) (n.lacking g).1);
      alone = alone;
    }
  where
    alone : r ≤ length s → (t : List ℕ) → behind_comment (part i r s ++ t) ≡ byte " " ∷ uncommented false t
    alone g t =
        let f = n.found g in
        ap (λ (l : List ℕ). behind_comment (l ++ t)) f.2 ∙ ap behind_comment (append_assoc f.1 (93 ∷ []) t) ∙ comment-closed f.1 t f.3

-- ---- one blank

module _ (s : List ℕ) (i : ℕ) (h : i < length s) where
  pub blank-open : (e : ℕ) → get_or s i 0 ≡ 91 → CommentEnd s (i + 1) e → length s < e → BlankEnd s i i
  unfolding begins is_blank member bytes
  blank-open e q c g =
      record {
        within = omega arith;
        past = λ n. absurd (n refl);
        stop = λ _. ap (begins is_blank) (plain-comment s i h q ∙ (c.unclosed g).1);
      }

  pub blank-comment : (e : ℕ) → get_or s i 0 ≡ 91 → CommentEnd s (i + 1) e → e ≤ length s → BlankEnd s i e
  unfolding is_blank member bytes
  blank-comment e q c g =
      record {
        within = g;
        past = λ n. (omega (arith, (c.closed g).0), ap (behind_run is_blank) (plain-comment s i h q ∙ (c.closed g).1) ∙ behind-here is_blank 32 (plain_at s e) refl);
        stop = λ q. absurd (omega (arith, (c.closed g).0));
      }

  pub blank-here : (get_or s i 0 ≡ 91 → ⊥) → is_blank (get_or s i 0) ≡ true → BlankEnd s i (i + 1)
  unfolding is_blank
  blank-here n b =
      let m : get_or s i 0 ≡ 39 → ⊥ = λ e. true≢false (sym b ∙ ap is_blank e) in
      record {
        within = omega arith;
        past = λ _. (omega arith, ap (behind_run is_blank) (plain_byte s i h n m) ∙ behind-here is_blank _ _ b);
        stop = λ q. absurd (omega arith);
      }

  pub blank_none : (get_or s i 0 ≡ 91 → ⊥) → is_blank (get_or s i 0) ≡ false → BlankEnd s i i
  unfolding begins
  blank_none n b =
      record {
        within = omega arith;
        past = λ m. absurd (m refl);
        stop = λ _. ap (begins is_blank) (plain-front s i h n).1 ∙ b;
      }

-- ---- blanks

pub record Blanks (s : List ℕ) (i r : ℕ) : Type 0 where
  pub past : i ≤ r
  pub within : r ≤ length s
  pub same : behind_run is_blank (plain_at s i) ≡ behind_run is_blank (plain_at s r)

pub blanks-none : (s : List ℕ) (i : ℕ) → i ≤ length s → Blanks s i i
blanks-none s i h = record { past = omega arith; within = h; same = refl }

module _ (s : List ℕ) (i r : ℕ) (d : Blanks s i r) where
  pub blanks-more : (n : ℕ) → BlankEnd s r n → (n ≡ r → ⊥) → Blanks s i n
  blanks-more n b m =
      record { past = omega (arith, d.past, (b.past m).0); within = b.within; same = d.same ∙ (b.past m).1 }

  pub skipped-here : (n : ℕ) → BlankEnd s r n → n ≡ r → Skipped s i r
  skipped-here n b e =
      record { past = d.past; within = d.within; plain = d.same ∙ behind-over is_blank _ (b.stop e); stop = b.stop e }

  pub skipped-all : length s ≤ r → Skipped s i r
  unfolding begins
  skipped-all h =
      let e = ap (begins is_blank) (plain-none s r h) in
      record { past = d.past; within = d.within; plain = d.same ∙ behind-over is_blank _ e; stop = e }
