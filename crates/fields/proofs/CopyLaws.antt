-- What is written into a part of a list, as `put`, `copied` and `cleared` say it. Assumes nothing.
use Rattle.std.proofs.Common.{◌≡◌, refl, sym, ap, ◌∙◌, ℕ, zero, suc, ◌+◌, ◌-◌, ◌/◌, ◌%◌, ◌^◌, ◌≤◌, List, length, set, take, drop, replicate, div-one, pow-suc, add-one, arith}
use Rattle.std.specs.Int.{bytes_low_first}
use Rattle.std.proofs.Math.Nat.{div-div-eq-div-mul}
use Rattle.std.proofs.lemmas.List.{length-replicate, take_all}
use Rattle.std.proofs.lemmas.List.Edits.{sets, sets-eq}
use Rattle.std.proofs.lemmas.Slice.{put_mid-paste}
use borrow.Rule.Slice.PartMut.{put_mid}
use Rattle.fields.specs.Field.{put}
use Rattle.fields.specs.Run.{copied, cleared}
use Rattle.fields.specs.RunLaws.{run_length}

-- a part is written as a list stored in it
written : (s : List ℕ) (at n : ℕ) {t u : List ℕ} → t ≡ u → length u ≡ n → at + n ≤ length s
    → put_mid at (at + n - at) s t ≡ sets s at u
written s at n {t} {u} e l h =
    put_mid-paste at (at + n - at) s t u n e (omega arith) (sym l)
    ∙ (let w : take n u ≡ u = take_all n u (omega arith) in rw (w, ← l) (sym (sets-eq u s at (omega arith))))

-- ---- a number

length-low-first : (k i v : ℕ) → length (bytes_low_first i k v) ≡ k
length-low-first zero i v = refl
length-low-first (suc k) i v = ap suc (length-low-first k (suc i) v)

-- the k bytes of v from byte i on
put-low-first : (k i : ℕ) (s : List ℕ) (at v : ℕ) → put k s at (v / 256 ^ i) ≡ sets s at (bytes_low_first i k v)
unfolding put
put-low-first zero i s at v = refl
put-low-first (suc k) zero s at v =
    let q : v / 256 ^ 0 ≡ v = div-one v in
    rw (q, add-one) (put-low-first k 1 (set s at (v % 256)) (suc at) v)
put-low-first (suc k) (suc i) s at v =
    let q : v / 256 ^ suc i / 256 ≡ v / 256 ^ suc (suc i) =
    div-div-eq-div-mul v (256 ^ suc i) 256 ∙ ap (λ n. v / n) (sym (pow-suc 256 (suc i))) in
    rw (q, add-one) (put-low-first k (suc (suc i)) (set s at (v / 256 ^ suc i % 256)) (suc at) v)

pub put_bytes : (k : ℕ) (s : List ℕ) (at v : ℕ) {t u : List ℕ} → t ≡ u → u ≡ bytes_low_first 0 k v → at + k ≤ length s
    → put_mid at (at + k - at) s t ≡ put k s at v
put_bytes k s at v e f h =
    let q : v / 256 ^ 0 ≡ v = div-one v in
    written s at k (e ∙ f) (length-low-first k 0 v) h ∙ sym (put-low-first k 0 s at v) ∙ ap (λ (n : ℕ). put k s at n) q

-- ---- a run

pub copied_whole : (s : List ℕ) (to : ℕ) (t : List ℕ) (from n : ℕ) {u : List ℕ} → u ≡ take (from + n - from) (drop from t)
    → to + n ≤ length s → from + n ≤ length t → put_mid to (to + n - to) s u ≡ copied s to t from n
unfolding copied
copied_whole s to t from n e h g =
    let q : from + n - from ≡ n = omega arith in
    written s to n (rw q at e) (run_length t from n g) h

pub cleared_whole : (s : List ℕ) (at n : ℕ) {u : List ℕ} → u ≡ replicate (length (take (at + n - at) (drop at s))) 0 → at + n ≤ length s
    → put_mid at (at + n - at) s u ≡ cleared s at n
unfolding cleared
cleared_whole s at n e h =
    let q : at + n - at ≡ n = omega arith in
    written s at n (rw (q, run_length s at n h) at e) (length-replicate n 0) h
