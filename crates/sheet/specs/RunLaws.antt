-- Laws of lines that are written one behind another. Assumes nothing.
--
--   run-start, run_more            before the first line, and behind one more
--   run_end, run-full              behind the last line, and before one that does not fit
--   run_length                     the buffer stays as long as it was
--   fitted-first, fitted-rest      of lines: the first, where it fits; those that fit, and the others
--   prints-refused, prints-missing, prints-short, prints-given     what is answered: a refusal, 13, 4, or the lines
--   one-given, one-refused         what is answered of one line alone
use Rattle.std.specs.Prelude.{ℕ, suc, ◌+◌, ◌-◌, ◌≤◌, ◌<◌, ◌≡◌, Bool, ltb, get_or, if◌then◌else◌, Ok, Err}
use native.Mathlib.Omega.{arith}
use Rattle.std.proofs.Math.Path.{refl, ap}
use Rattle.std.proofs.Common.{sym, ◌∙◌, length-append, length-drop, drop_of_length-le, take_at, drop-drop, drop-cons, add-one, lt-ltb, le-ltb}
use Rattle.std.proofs.Math.Bool.{true, false}
use mathlib.Core.List.{List, [], ◌∷◌, ◌++◌, flat_map, append-nil, append_assoc}
use Rattle.std.proofs.Math.ListN.{length, take, drop}
use Rattle.std.proofs.Math.Seq.{sets-eq, drop-append-add, length-take-le}
use Rattle.trees.specs.Plain.{Answer, refused, gives}
use Rattle.trees.specs.Questions.{if_room}
use Rattle.answers.specs.declared.Refusal.{Refusal}
use Rattle.answers.specs.declared.Refusal.TheVariants as why
use Rattle.answers.specs.Answers.{refusal_number, refusing, number_given, both_given}
use Rattle.answers.specs.Filled.{length_given, front, FilledAs}
use Rattle.answers.specs.AnswerLaws.{gives≢refused}
use Rattle.fields.specs.Run.{copied}
use Rattle.putting.specs.Lines.{bytes_of}
use Rattle.putting.specs.LinesLaws.{bytes-more}
use Rattle.sheet.specs.Asked.{fitted, if_any, lines_from, bytes_given, sizes_given, PrintsAs}
use Rattle.sheet.specs.Run.{Run, Printing}

-- ---- lines that fit

module _ (room : ℕ) (l : List ℕ) (ls : List (List ℕ)) where
  fitted-more : length l ≤ room → fitted room (l ∷ ls) ≡ l ∷ fitted (room - length l) ls
  unfolding fitted
  fitted-more h = rw (le-ltb room (length l) h)

  fitted_none : room < length l → fitted room (l ∷ ls) ≡ []
  unfolding fitted
  fitted_none h = rw (lt-ltb room (length l) h)

pub fitted-first : (room : ℕ) (ls : List (List ℕ)) (i : ℕ) → i < length ls → length (get_or ls i []) ≤ room
    → (more : List (List ℕ)) × (fitted room (drop i ls) ≡ get_or ls i [] ∷ more)
fitted-first room ls i h k =
    (fitted (room - length (get_or ls i [])) (drop (suc i) ls), rw (drop-cons ls i [] h) (fitted-more room (get_or ls i []) (drop (suc i) ls) k))

pub fitted-rest : (room : ℕ) (ls : List (List ℕ)) → fitted room ls ++ drop (length (fitted room ls)) ls ≡ ls
unfolding fitted
fitted-rest room [] = refl
fitted-rest room (l ∷ ls) = go (ltb room (length l)) (fitted-rest (room - length l) ls)
  where
    go : (b : Bool) → fitted (room - length l) ls ++ drop (length (fitted (room - length l) ls)) ls ≡ ls
        → (if b then [] else l ∷ fitted (room - length l) ls) ++ drop (length (if b then [] else l ∷ fitted (room - length l) ls)) (l ∷ ls) ≡ l ∷ ls
    go true e = refl
    go false e = ap (λ (x : List (List ℕ)). l ∷ x) e

-- ---- a run of lines

module _ (ls : List (List ℕ)) (from : ℕ) (old : List ℕ) where
  pub run-start : Printing ls from from old old 0
  unfolding bytes_of flat_map
  run-start =
      let e : length old - 0 ≡ length old = omega arith in
      record { done = []; counted = omega arith; used = refl; fits = omega arith; rest = rw e refl; stored = refl }

  module _ {j at : ℕ} {m : List ℕ} (p : Printing ls from j old m at) where
    pub run_length : length m ≡ length old
    run_length = ap length p.stored ∙ omega (arith, length-append (bytes_of p.done) (drop at old), p.used, p.fits, length-drop at old)

    -- what has fitted is all that fits
    all_done : fitted (length old - at) (drop j ls) ≡ [] → p.done ≡ fitted (length old) (drop from ls)
    all_done e = sym (append-nil p.done) ∙ (rw e at p.rest)

    run-all : fitted (length old - at) (drop j ls) ≡ [] → Run (drop from ls) at (j - from) old m
    run-all e =
        let d = all_done e in
        record {
          counted = omega (arith, p.counted, ap length d);
          used = p.used ∙ ap (λ (x : List (List ℕ)). length (bytes_of x)) d;
          stored = p.stored ∙ ap (λ (x : List (List ℕ)). bytes_of x ++ drop at old) d;
        }

    pub run_end : length ls ≤ j → Run (drop from ls) at (j - from) old m
    run_end h = run-all (rw (drop_of_length-le ls {i = j} h) (unfold fitted in refl))

    module _ (text : List ℕ) (n : ℕ) (h : j < length ls) (e : take n text ≡ get_or ls j []) (k : n ≤ length text) where
      abbrev line : List ℕ
      line = get_or ls j []

      line-length : n ≡ length line
      line-length = sym (length-take-le n text k) ∙ ap length e

      pub run-full : length m - at < n → Run (drop from ls) at (j - from) old m
      run-full f = run-all (rw (drop-cons ls j [] h) (fitted_none (length old - at) line (drop (suc j) ls) (omega (arith, line-length, run_length))))

      pub run_more : {after : List ℕ} → n ≤ length m - at → after ≡ copied m at text 0 n → Printing ls from (j + 1) old after (at + n)
      run_more {after} f c = record {
        done = p.done ++ line ∷ [];
        counted = omega (arith, length-append p.done (line ∷ []), p.counted);
        used = omega (arith, ap length (bytes-more p.done line), length-append (bytes_of p.done) line, p.used, line-length);
        fits = room;
        rest = more;
        stored = c ∙ put ∙ rw (p.stored, e) stand;
      }
        where
          room : at + n ≤ length old
          room = omega (arith, run_length, p.fits)

          put : copied m at text 0 n ≡ (take at m ++ take n text) ++ drop (at + n) m
          put = unfold copied in sets-eq (take n text) m at (omega (arith, length-take-le n text k, run_length)) ∙ ap (λ (i : ℕ). (take at m ++ take n text) ++ drop (at + i) m) (length-take-le n text k)

          stand : (take at (bytes_of p.done ++ drop at old) ++ line) ++ drop (at + n) (bytes_of p.done ++ drop at old) ≡ bytes_of (p.done ++ line ∷ []) ++ drop (at + n) old
          stand = rw (take_at (bytes_of p.done) (drop at old) at (sym p.used), bytes-more p.done line) (ap (λ (v : List ℕ). (bytes_of p.done ++ line) ++ v) behind)
            where
              behind : drop (at + n) (bytes_of p.done ++ drop at old) ≡ drop (at + n) old
              behind = ap (λ (i : ℕ). drop (i + n) (bytes_of p.done ++ drop at old)) p.used ∙ drop-append-add (bytes_of p.done) (drop at old) n ∙ drop-drop n at old

          more : (p.done ++ line ∷ []) ++ fitted (length old - (at + n)) (drop (j + 1) ls) ≡ fitted (length old) (drop from ls)
          more =
              let d : length old - at - length line ≡ length old - (at + n) = omega (arith, line-length) in
              let q : fitted (length old - at) (drop j ls) ≡ line ∷ fitted (length old - (at + n)) (drop (j + 1) ls) =
              rw (drop-cons ls j [] h, add-one j, ← d) (fitted-more (length old - at) line (drop (suc j) ls) (omega (arith, line-length, run_length))) in
              append_assoc p.done (line ∷ []) (fitted (length old - (at + n)) (drop (j + 1) ls)) ∙ ap (λ (x : List (List ℕ)). p.done ++ x) (sym q) ∙ p.rest

-- ---- what is answered

module _ (x : Answer (List (List ℕ))) (old : List ℕ) where
  pub prints-refused : (r : Refusal) → x ≡ refusing r → PrintsAs x (Err r) old old
  unfolding both_given sizes_given bytes_given front
  prints-refused r e = rw e (refl, refl)

  module _ (ls : List (List ℕ)) (from : ℕ) (e : x ≡ lines_from ls from (length old)) where
    pub prints-missing : length ls ≤ from → PrintsAs x (Err why.NoSuchNumber) old old
    unfolding lines_from refusal_number
    prints-missing h = prints-refused why.NoSuchNumber (e ∙ rw (le-ltb from (length ls) h))

    module _ (h : from < length ls) (bytes lines : ℕ) (m : List ℕ) (r : Run (drop from ls) bytes lines old m) where
      there : x ≡ if_any (fitted (length old) (drop from ls))
      unfolding lines_from
      there = e ∙ rw (lt-ltb from (length ls) h)

      pub prints-short : lines ≡ 0 → PrintsAs x (Err why.TooShort) old m
      prints-short z = go (fitted (length old) (drop from ls)) r.counted there r.used r.stored
        where
          go : (fs : List (List ℕ)) → lines ≡ length fs → x ≡ if_any fs → bytes ≡ length (bytes_of fs) → m ≡ bytes_of fs ++ drop bytes old
              → PrintsAs x (Err why.TooShort) old m
          go [] c d u s = unfold if_any refusal_number bytes_of flat_map in rw (s, u) (prints-refused why.TooShort d)
          go (f ∷ fs) c d u s = absurd (omega arith)

      pub prints-given : (lines ≡ 0 → ⊥) → PrintsAs x (Ok (bytes, lines)) old m
      prints-given z = go (fitted (length old) (drop from ls)) r.counted there r.used r.stored
        where
          go : (fs : List (List ℕ)) → lines ≡ length fs → x ≡ if_any fs → bytes ≡ length (bytes_of fs) → m ≡ bytes_of fs ++ drop bytes old
              → PrintsAs x (Ok (bytes, lines)) old m
          go [] c d u s = absurd (z c)
          go (f ∷ fs) c d u s = unfold if_any both_given sizes_given bytes_given front in rw d (rw (c, u) refl, s ∙ rw u refl)

-- ---- one line alone

module _ (old l m : List ℕ) where
  pub one-given : (n : ℕ) → FilledAs (if_room (length old) l) (Ok n) old m → PrintsAs (lines_from (l ∷ []) 0 (length old)) (Ok (n, 1)) old m
  unfolding if_room lines_from fitted if_any number_given length_given both_given sizes_given bytes_given bytes_of flat_map front
  one-given n f = go (ltb (length old) (length l)) f
    where
      go : (b : Bool) → FilledAs (if b then refused 4 else gives l) (Ok n) old m → PrintsAs (if_any (if b then [] else l ∷ [])) (Ok (n, 1)) old m
      go true g = absurd (gives≢refused n 4 g.0)
      go false g = let e : n ≡ length l = cc in (rw (append-nil l, e) refl, g.1 ∙ rw (append-nil l) refl)

  pub one-refused : (r : Refusal) → FilledAs (if_room (length old) l) (Err r) old m → PrintsAs (lines_from (l ∷ []) 0 (length old)) (Err r) old m
  unfolding if_room lines_from fitted if_any number_given length_given both_given sizes_given bytes_given bytes_of flat_map front
  one-refused r f = go (ltb (length old) (length l)) f
    where
      go : (b : Bool) → FilledAs (if b then refused 4 else gives l) (Err r) old m → PrintsAs (if_any (if b then [] else l ∷ [])) (Err r) old m
      go true g = let e : refusal_number r ≡ 4 = cc in (ap (λ (k : ℕ). refused k) e, g.1)
      go false g = absurd (gives≢refused (length l) (refusal_number r) (sym g.0))
