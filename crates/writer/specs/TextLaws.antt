-- The laws of a writing's answer. Assumes nothing.
--
--   wrote_nothing     there is too little room
--   wrote-all         the text, made elsewhere, is copied
use Rattle.std.specs.Prelude.{ℕ, ◌≤◌, ◌<◌, ◌≡◌, List, ◌++◌, length, take, drop, None, Some}
use Rattle.std.proofs.Common.{zero-add, arith, sym, ◌∙◌, take_at}
use Rattle.std.proofs.lemmas.List.Edits.{sets, sets-eq}
use Rattle.fields.specs.Run.{copied}
use Rattle.writer.specs.Text.{Wrote}
use Rattle.putting.specs.Put.{Put}

pub wrote_nothing : (w before after : List ℕ) (n : ℕ) → n ≡ length w → length before < n → after ≡ before → Wrote w before None after
unfolding Wrote
wrote_nothing w before after n p h e = (omega arith, e)

-- stored from the start on
sets-start : (w l : List ℕ) → length w ≤ length l → sets l 0 w ≡ w ++ drop (length w) l
sets-start w l h = sets-eq w l 0 (omega arith) ∙ rw zero-add

pub wrote-all : (w blank made before after : List ℕ) (n : ℕ) → Put blank 0 w made n → length w ≤ length blank → n ≤ length before
    → after ≡ copied before 0 made 0 n → Wrote w before (Some n) after
unfolding Wrote copied
wrote-all w blank made before after n p f h e =
    let q : n ≡ length w = omega (arith, p.ends) in
    let t : take n made ≡ w = rw (p.stored, sets-start w blank f) (take_at w (drop (length w) blank) n (sym q)) in
    (q, h, e ∙ rw t (rw q (sets-start w before (omega arith))))
