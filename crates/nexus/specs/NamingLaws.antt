-- Where a text is bare, and the names of its tokens, noted one by one. Assumes nothing.
--
--   bare-here            behind blanks and comments stand plain bytes alone
--   bare_none, bare_some     what an answer says of a text
--   Naming               the names of the first j tokens are noted, and have n bytes
--   naming-none, naming-more, naming-done     none, one more, and all of them
--   naming-over          a token is no key, or the names are too long
--   named-there          what an answer says of the names
use Rattle.std.specs.Prelude.{ℕ, ◌+◌, ◌-◌, ◌*◌, ◌≤◌, ◌<◌, ◌≡◌, refl, Bool, false, ◌||◌, ◌&&◌, List, [], ◌∷◌, ◌++◌, map, eqb, get_or, set, drop, Some, None}
use Rattle.std.proofs.Common.{add-one, ◌∙◌, append-nil, drop_of_length-le, ne_eqb}
use native.Mathlib.Omega.{arith}
use Rattle.std.proofs.Math.Path.{sym, ap, ap₂, subst}
use Rattle.std.proofs.Math.Bool.{true}
use Rattle.std.proofs.Math.Logic.{⊎_elim}
use Rattle.std.proofs.Math.ListN.{length, length-set}
use Rattle.std.proofs.Math.Seq.{slice, get_or-set_same, get_or-set_other}
use Rattle.std.proofs.lemmas.Bool.{eqb-false, not-true}
use Rattle.trees.specs.Plain.{every, member, byte}
use Rattle.trees.specs.Text.{semicolon, apostrophe}
use Rattle.trees.specs.Held.{most_text}
use Rattle.trees.specs.Nexus.{Pair, uncommented}
use Rattle.trees.specs.NexusCall.{name_of, keys_of}
use Rattle.theorems.specs.ListLaws.{less-or-not, and_left, and_right}
use Rattle.newick.specs.Running.{labels_at}
use Rattle.nexus.specs.Places.{part, other, plain, PlainEnd, Skipped}
use Rattle.nexus.specs.PartLaws.{part_length, part-rest}
use Rattle.nexus.specs.ByteLaws.{plain-append}
use Rattle.nexus.specs.PlainLaws.{run-every}
use Rattle.nexus.specs.Commands.{pairs_in}
use Rattle.nexus.specs.Keys.{FoundAs}
use Rattle.nexus.specs.KeyLaws.{part_slice, name-found}
use Rattle.nexus.specs.Named.{bytes_of}
use Rattle.nexus.specs.Keyed.{Bare, BareFrom, NameAt, NamesThere, NamesAs}

-- ---- a bare text

-- plain bytes have no quote
no-quote : (w : List ℕ) → every plain w ≡ true → member apostrophe w ≡ false
unfolding every member
no-quote [] e = refl
no-quote (b ∷ w) e =
    let p = and_left (plain b) (every plain w) e in
    let q : other apostrophe b ≡ true = and_right (other (byte "[") b) (other apostrophe b) (and_right (other semicolon b) (other (byte "[") b && other apostrophe b) p) in
    let n : eqb apostrophe b ≡ false = ne_eqb apostrophe b (λ x. eqb-false b apostrophe (not-true (eqb b apostrophe) q) (sym x)) in
    ap (λ (t : Bool). t || member apostrophe w) n ∙ no-quote w (and_right (plain b) (every plain w) e)

module _ (s : List ℕ) (i : ℕ) (k : Skipped s 0 i) (r : ℕ) (p : PlainEnd s i r) where
  pub bare-here : length s ≤ r → length s - i ≤ most_text → BareFrom s (Some i)
  unfolding uncommented BareFrom
  bare-here h m = (
    k.within,
    record {
      short = omega (arith, part_length s i (length s) k.within (omega arith));
      quoteless = no-quote (part i (length s) s) all_plain;
      behind = k.plain ∙ ap (uncommented false) whole ∙ as-it-is;
    },
  )
    where
      all_plain : every plain (part i (length s) s) ≡ true
      all_plain = let e : r ≡ length s = omega (arith, p.within) in rw e at (run-every s i r p)

      whole : drop i s ≡ part i (length s) s
      whole = part-rest s i (length s) k.within ∙ ap (λ l. part i (length s) s ++ l) (drop_of_length-le s {i = length s} (omega arith)) ∙ append-nil (part i (length s) s)

      as-it-is : uncommented false (part i (length s) s) ≡ part i (length s) s
      as-it-is =
          ap (uncommented false) (sym (append-nil (part i (length s) s))) ∙ plain-append plain refl refl (part i (length s) s) [] all_plain ∙ append-nil (part i (length s) s)

pub bare_none : (s : List ℕ) → BareFrom s None
unfolding BareFrom
bare_none s = tt

pub bare_some : (s : List ℕ) (r : ℕ) → BareFrom s (Some r) → (r ≤ length s) × Bare s r
unfolding BareFrom
bare_some s r b = b

-- ---- names

bytes-more : (ws : List (List ℕ)) (w : List ℕ) → bytes_of (ws ++ w ∷ []) ≡ bytes_of ws + length w
unfolding bytes_of
bytes-more [] w = omega arith
bytes-more (v ∷ ws) w = omega (arith, bytes-more ws w)

map_more : (f : List ℕ → List ℕ) (ws : List (List ℕ)) (w : List ℕ) → map f (ws ++ w ∷ []) ≡ map f ws ++ f w ∷ []
map_more f [] w = refl
map_more f (v ∷ ws) w = ap (λ l. f v ∷ l) (map_more f ws w)

pub record Naming (ps : List Pair) (list text tokens : List ℕ) (j n : ℕ) (names : List ℕ) : Type 0 where
  pub few : n ≤ most_text
  pub each : (i : ℕ) → i < j → NameAt ps list text tokens names i
  pub bytes : n ≡ bytes_of (map (name_of ps) (labels_at text tokens j))

pub naming-none : (ps : List Pair) (list text tokens names : List ℕ) → Naming ps list text tokens 0 0 names
unfolding labels_at bytes_of
naming-none ps list text tokens names = record { few = omega arith; each = λ i h. absurd (omega arith); bytes = refl }

pub naming-done : (ps : List Pair) (list text tokens names : List ℕ) (j k n : ℕ) → Naming ps list text tokens j n names → j ≡ k → NamesAs ps list text tokens k names (Some n)
unfolding NamesAs
naming-done ps list text tokens names j k n g e =
    subst (λ (m : ℕ). NamesThere ps list text tokens m names n) e (record { few = g.few; each = g.each; bytes = g.bytes })

pub naming-over : (ps : List Pair) (list text tokens names : List ℕ) (k : ℕ) → NamesAs ps list text tokens k names None
unfolding NamesAs
naming-over ps list text tokens names k = tt

pub named-there : (ps : List Pair) (list text tokens names : List ℕ) (k n : ℕ) → NamesAs ps list text tokens k names (Some n)
    → NamesThere ps list text tokens k names n
unfolding NamesAs
named-there ps list text tokens names k n g = g

-- token j, from b up to e, is the key of pair r, whose name stands from a up to z
module _ (list places text tokens : List ℕ) (m j n : ℕ) (names : List ℕ) (g : Naming (pairs_in list m places) list text tokens j n names) (room : 2 * j + 2 ≤ length names)
    (b e : ℕ) (p : b ≡ get_or tokens (2 * j) 0) (q : e ≡ get_or tokens (2 * j + 1) 0) (order : b ≤ e)
    (r : ℕ) (found : FoundAs (keys_of (pairs_in list m places)) (part b e text) (Some r))
    (a z : ℕ) (f : a ≡ get_or places (4 * r + 2) 0) (h : z ≡ get_or places (4 * r + 3) 0) (rising : a ≤ z) (within : z ≤ length list)
    (fits : z - a ≤ most_text - n) where
  abbrev ps : List Pair
  ps = pairs_in list m places

  after : List ℕ
  after = set (set names (2 * j) a) (2 * j + 1) z

  name-is : name_of ps (slice (get_or tokens (2 * j) 0) (get_or tokens (2 * j + 1) 0) text) ≡ part a z list
  name-is = rw (← p, ← q, ← (part_slice text b e order)) (name-found list places (part b e text) m r found a z f h)

  first-at : get_or after (2 * j) 0 ≡ a
  unfolding after
  first-at = get_or-set_other (set names (2 * j) a) (2 * j + 1) (2 * j) z 0 (λ x. omega arith) ∙ get_or-set_same names (2 * j) a 0 (omega arith)

  second_at : get_or after (2 * j + 1) 0 ≡ z
  unfolding after
  second_at = get_or-set_same (set names (2 * j) a) (2 * j + 1) z 0 (omega (arith, length-set names (2 * j) a))

  below : (i : ℕ) → i < 2 * j → get_or after i 0 ≡ get_or names i 0
  unfolding after
  below i d = get_or-set_other (set names (2 * j) a) (2 * j + 1) i z 0 (λ x. omega arith) ∙ get_or-set_other names (2 * j) i a 0 (λ x. omega arith)

  here : NameAt ps list text tokens after j
  here = record {
    order = rw (first-at, second_at) rising;
    within = rw second_at within;
    name = rw (first-at, second_at) (sym (part_slice list a z rising) ∙ sym name-is);
  }

  before : (i : ℕ) → i < j → NameAt ps list text tokens after i
  before i d =
      let x = g.each i d in
      let u = below (2 * i) (omega arith) in
      let v = below (2 * i + 1) (omega arith) in
      record { order = rw (u, v) x.order; within = rw v x.within; name = rw (u, v) x.name }

  pub naming-more : Naming (pairs_in list m places) list text tokens (j + 1) (n + (z - a)) (set (set names (2 * j) a) (2 * j + 1) z)
  unfolding labels_at after
  naming-more = record {
    few = omega (arith, g.few);
    each = λ i d. ⊎_elim (λ l. before i l) (λ l. let y : i ≡ j = omega arith in subst (NameAt ps list text tokens after) (sym y) here) (less-or-not i j);
    bytes =
        ap₂ (λ (x y : ℕ). x + y) g.bytes (sym (ap length name-is ∙ part_length list a z rising within))
        ∙ sym (bytes-more (map (name_of ps) (labels_at text tokens j)) _)
        ∙ ap bytes_of (sym (map_more (name_of ps) (labels_at text tokens j) _))
        ∙ ap (λ (x : ℕ). bytes_of (map (name_of ps) (labels_at text tokens x))) (sym (add-one j));
  }
