-- Laws of runs that are copied in words, and past their ends. Assumes nothing.
--
--   copied-cons      the first byte of a run
--   copied-join      a run, and the one behind it
--   put-number       bytes that are copied as a number
--   words_copied     16 bytes that are copied as two numbers
--   put-wide         more bytes copied than are put
use Prim.Native.Nat.{ℕ, zero, suc, ◌+◌, ◌-◌, ◌*◌, ◌/◌, ◌%◌, ◌≤◌, ◌<◌}
use Rattle.std.proofs.Common.{add-zero, zero-add, suc-add, add-one, ap, ◌∙◌, append_assoc, length-drop, take_at, length-take-le, drop-cons}
use native.Mathlib.Omega.{arith}
use Rattle.std.specs.Prelude.{◌≡◌, List, length, set, take, drop}
use Rattle.std.proofs.Math.Path.{refl, sym}
use Rattle.std.proofs.Math.ListN.{get_or}
use Rattle.std.proofs.lemmas.List.Edits.{sets-eq}
use Rattle.trees.specs.Held.{most_text}
use Rattle.fields.specs.Field.{number, put}
use Rattle.fields.specs.Run.{copied}
use Rattle.fields.specs.RunLaws.{copied-length}
use Rattle.nexus.specs.Places.{part}
use Rattle.nexus.specs.Texts.{PutAs}
use Rattle.nexus.specs.TextLaws.{put-run}

copied-cons : (o s : List ℕ) (to b k : ℕ) → b < length s → copied o to s b (suc k) ≡ copied (set o to (get_or s b 0)) (to + 1) s (b + 1) k
unfolding copied
copied-cons o s to b k h = rw (drop-cons s b 0 h, add-one to, add-one b)

copied-join : (m n : ℕ) (o s : List ℕ) (to b : ℕ) → b + m ≤ length s → copied (copied o to s b m) (to + m) s (b + m) n ≡ copied o to s b (m + n)
unfolding copied
copied-join zero n o s to b h = rw (add-zero to, add-zero b, zero-add n)
copied-join (suc m) n o s to b h =
    let x = get_or s b 0 in
    let p : to + suc m ≡ to + 1 + m = omega arith in
    let q : b + suc m ≡ b + 1 + m = omega arith in
    rw (p, q, suc-add m n)
    (ap (λ (l : List ℕ). copied l (to + 1 + m) s (b + 1 + m) n) (copied-cons o s to b m (omega arith))
    ∙ copied-join m n (set o to x) s (to + 1) (b + 1) (omega arith)
    ∙ sym (copied-cons o s to b (m + n) (omega arith)))

module _ (s : List ℕ) (small : (i : ℕ) → get_or s i 0 < 256) where
  put-number : (k : ℕ) (o : List ℕ) (to b : ℕ) → b + k ≤ length s → put k o to (number k s b) ≡ copied o to s b k
  unfolding put number copied
  put-number zero o to b h = refl
  put-number (suc k) o to b h =
      let x = get_or s b 0 in
      let y = small b in
      let v = number k s (b + 1) in
      let m : (x + 256 * v) % 256 ≡ x = omega arith in
      let d : (x + 256 * v) / 256 ≡ v = omega arith in
      rw (m, d) (put-number k (set o to x) (to + 1) (b + 1) (omega arith) ∙ sym (copied-cons o s to b k (omega arith)))

  pub words_copied : (o : List ℕ) (to b : ℕ) (p q : List ℕ) → b + 16 ≤ length s → p ≡ put 8 o to (number 8 s b)
      → q ≡ put 8 p (to + 8) (number 8 s (b + 8)) → q ≡ copied o to s b 16
  words_copied o to b p q h e f =
      f ∙ put-number 8 p (to + 8) (b + 8) (omega arith)
      ∙ ap (λ (l : List ℕ). copied l (to + 8) s (b + 8) 8) (e ∙ put-number 8 o to b (omega arith))
      ∙ copied-join 8 8 o s to b (omega arith)

front_kept : (o s : List ℕ) (to b n : ℕ) → to + n ≤ length o → b + n ≤ length s → take to (copied o to s b n) ≡ take to o
unfolding copied
front_kept o s to b n h f =
    let l = length-drop b s in
    let k : length (take n (drop b s)) ≡ n = length-take-le n (drop b s) (omega arith) in
    ap (take to) (sets-eq (take n (drop b s)) o to (omega arith) ∙ append_assoc (take to o) _ _)
    ∙ take_at (take to o) _ to (length-take-le to o (omega arith))

pub put-wide : (o s : List ℕ) (to b e n : ℕ) (p : List ℕ) → length o ≡ most_text → b ≤ e → e ≤ b + n → b + n ≤ length s → to + n ≤ most_text
    → p ≡ copied o to s b n → PutAs (part b e s) to (to + (e - b)) o p
put-wide o s to b e n p l h f g m q =
    let k = e - b in
    let u = copied o to s b k in
    let i : k + (n - k) ≡ n = omega arith in
    let j : p ≡ copied u (to + k) s (b + k) (n - k) = q ∙ sym (copied-join k (n - k) o s to b (omega arith) ∙ rw i) in
    let y = copied-length o to s b k in
    let z = copied-length u (to + k) s (b + k) (n - k) in
    let w = put-run o s to b e u l h (omega arith) (omega arith) refl in
    record {
      size = ap length j ∙ z ∙ y;
      fits = λ v. ((w.fits v).0, ap (take (to + k)) j ∙ front_kept u s (to + k) (b + k) (n - k) (omega arith) (omega arith) ∙ (w.fits v).1);
      over = w.over;
    }
