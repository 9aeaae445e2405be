-- The laws of lines of words. Assumes nothing.
--
--   spaced-more                    one word more
--   bytes-append, bytes-more       the bytes of lines behind others, and of one line more
use Rattle.std.specs.Prelude.{ℕ, ◌≡◌, refl}
use Rattle.std.proofs.Common.{sym, ap, ◌∙◌}
use mathlib.Core.List.{List, [], ◌∷◌, ◌++◌, flat_map, append_assoc, append-nil}
use Rattle.putting.specs.Lines.{spaced, bytes_of}

pub spaced-more : (ws : List (List ℕ)) (w : List ℕ) → spaced (ws ++ w ∷ []) ≡ spaced ws ++ (32 ∷ w)
unfolding spaced
spaced-more [] w = ap (λ (v : List ℕ). 32 ∷ v) (append-nil w)
spaced-more (v ∷ ws) w = ap (λ (x : List ℕ). 32 ∷ x) (ap (λ (x : List ℕ). v ++ x) (spaced-more ws w) ∙ sym (append_assoc v (spaced ws) (32 ∷ w)))

pub bytes-append : (ls ms : List (List ℕ)) → bytes_of (ls ++ ms) ≡ bytes_of ls ++ bytes_of ms
unfolding bytes_of flat_map
bytes-append [] ms = refl
bytes-append (l ∷ ls) ms = ap (λ (v : List ℕ). l ++ v) (bytes-append ls ms) ∙ sym (append_assoc l (bytes_of ls) (bytes_of ms))

pub bytes-more : (ls : List (List ℕ)) (l : List ℕ) → bytes_of (ls ++ l ∷ []) ≡ bytes_of ls ++ l
bytes-more ls l = bytes-append ls (l ∷ []) ∙ ap (λ (v : List ℕ). bytes_of ls ++ v) (unfold bytes_of flat_map in append-nil l)
