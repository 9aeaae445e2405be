-- Laws of reading the pairs of a TRANSLATE list, one after another: 44 is the comma between two of them. Assumes nothing.
--
--   prepended ps x     the pairs ps before the pairs x, if any
--   prepended-none, prepended-some, prepended-more     before nothing, before others, one more
--   too_many           as many pairs as a list may have, and a part more, are no list
--   ReadTo c i at n ps     from i on, n pairs were read up to at, and their places are ps
--   placed-next, rest-next     one pair more
--   read_none, read-fault, read-many, read-last, read_more     the paths of `read_pairs`
use Rattle.std.specs.Prelude.{ℕ, ◌+◌, ◌*◌, ◌≤◌, ◌<◌, ◌≡◌, refl, false, List, [], ◌∷◌, ◌++◌, length, get_or}
use Rattle.std.proofs.Common.{arith, sym, ◌∙◌, append-nil, length-append}
use Rattle.std.proofs.Math.Path.{ap}
use Rattle.std.specs.Prelude.{None, Some}
use Rattle.std.proofs.Math.Option.{Option, none, some}
use Rattle.std.proofs.lemmas.Bool.{lt-leb}
use Rattle.trees.specs.Text.{parts}
use Rattle.trees.specs.Nexus.{Pair, most_keys}
use Rattle.trees.specs.NexusReading.{with_pair, read_pairs, wrong, listed}
use Rattle.theorems.specs.ListLaws.{if-false}
use Rattle.nexus.specs.declared.tokens.Token.{Token}
use Rattle.nexus.specs.Places.{plain_at, Skipped, TokenAt}
use Rattle.nexus.specs.Commands.{pairs_in, Placed, LabelAt, placed_pair, PairsAs}
use Rattle.nexus.specs.PairLaws.{pair_of, pairs-step, list-last, list-more}
use Rattle.nexus.specs.PlacedLaws.{pairs-length, pairs-more, placed-more, placed-none}

-- ---- pairs before others

unfoldable pub prepended : List Pair → Option (List Pair) → Option (List Pair)
unfolding with_pair
prepended [] x = x
prepended (p ∷ ps) x = with_pair (some p) (prepended ps x)

prepended-none : (ps : List Pair) → prepended ps none ≡ none
unfolding prepended
prepended-none [] = refl
prepended-none (p ∷ ps) = ap (with_pair (some p)) (prepended-none ps)

prepended-some : (ps qs : List Pair) → prepended ps (some qs) ≡ some (ps ++ qs)
unfolding prepended
prepended-some [] qs = refl
prepended-some (p ∷ ps) qs = ap (with_pair (some p)) (prepended-some ps qs)

prepended-more : (ps : List Pair) (p : Pair) (x : Option (List Pair)) → prepended (ps ++ (p ∷ [])) x ≡ prepended ps (with_pair (some p) x)
unfolding prepended
prepended-more [] p x = refl
prepended-more (q ∷ ps) p x = ap (with_pair (some q)) (prepended-more ps p x)

too_many : (ps : List Pair) (m : Option Pair) (x : Option (List Pair)) → most_keys ≤ length ps → listed (prepended ps (with_pair m x)) ≡ wrong
unfolding with_pair listed
too_many ps none x h = ap listed (prepended-none ps)
too_many ps (some p) none h = ap listed (prepended-none ps)
too_many ps (some p) (some qs) h =
    let l : most_keys < length (ps ++ (p ∷ qs)) = simp length-append (omega arith) in
    ap listed (prepended-some ps (p ∷ qs)) ∙ if-false _ _ (lt-leb _ most_keys l)

-- ---- the paths of `read_pairs`

pub record ReadTo (c : List ℕ) (i at n : ℕ) (ps : List ℕ) : Type 0 where
  pub here : at ≤ length c
  pub placed : Placed c n ps
  pub rest : read_pairs (parts 44 false (plain_at c i)) ≡ prepended (pairs_in c n ps) (read_pairs (parts 44 false (plain_at c at)))

pub read_none : (c : List ℕ) (i : ℕ) (ps : List ℕ) → i ≤ length c → ReadTo c i i 0 ps
unfolding pairs_in prepended
read_none c i ps h = record { here = h; placed = placed-none c ps; rest = refl }

module _ (c : List ℕ) (i at n : ℕ) (ps : List ℕ) (r : ReadTo c i at n ps) where
  pub read-fault : (qs : List ℕ) → read_pairs (parts 44 false (plain_at c at)) ≡ none → PairsAs c i qs None
  unfolding PairsAs listed
  read-fault qs e =
      ap listed (r.rest ∙ ap (prepended (pairs_in c n ps)) e ∙ prepended-none (pairs_in c n ps))

  pub read-many : (qs : List ℕ) → most_keys ≤ n → PairsAs c i qs None
  unfolding PairsAs
  read-many qs h =
      ap listed (r.rest ∙ ap (prepended (pairs_in c n ps)) (pairs-step (plain_at c at)))
      ∙ too_many (pairs_in c n ps) _ _ (omega (arith, pairs-length c ps n))

  module _
      (k v : Token)
      (e : ℕ)
      (qs : List ℕ)
      (few : n < most_keys)
      (room : 4 * n + 4 ≤ length ps)
      (tk : TokenAt c at k)
      (tv : LabelAt c k.end v)
      (two : (k.from ≡ k.end → ⊥) × (v.from ≡ v.end → ⊥))
      (sk : Skipped c v.end e)
      (put : qs ≡ placed_pair ps n k v) where
    placed-next : Placed c (n + 1) qs
    placed-next = rw put (placed-more ps n k v room c few r.placed tk.order tk.within tv.order tv.within)

    rest-next : (x : Option (List Pair)) → read_pairs (parts 44 false (plain_at c at)) ≡ with_pair (some (pair_of c k v)) x
        → read_pairs (parts 44 false (plain_at c i)) ≡ prepended (pairs_in c (n + 1) qs) x
    rest-next x q =
        r.rest ∙ ap (prepended (pairs_in c n ps)) q
        ∙ sym (prepended-more (pairs_in c n ps) _ x)
        ∙ ap (λ (l : List Pair). prepended l x) (sym (ap (pairs_in c (n + 1)) put ∙ pairs-more ps n k v room c))

    pub read-last : e ≡ length c → PairsAs c i qs (Some (n + 1))
    unfolding PairsAs
    read-last q =
        let all = rest-next (some []) (list-last c at k v tk tv two e sk q) ∙ prepended-some (pairs_in c (n + 1) qs) [] ∙ ap some (append-nil (pairs_in c (n + 1) qs)) in
        (omega arith, all, placed-next)

    pub read_more : e < length c → get_or c e 0 ≡ 44 → ReadTo c i (e + 1) (n + 1) qs
    read_more h q = record { here = omega arith; placed = placed-next; rest = rest-next _ (list-more c at k v tk tv two e sk h q) }
