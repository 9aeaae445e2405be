-- Laws of commands at places: a block's beginning, the lines of the TREES block and its end. Assumes nothing.
-- Byte 61 is `=`.
--
--   end-not, end_is       a command that does not begin with END; one that does ends the block where nothing stands behind it
--   not-begin, no_name, more-behind     a command that is wrong outside the blocks: not BEGIN, no name, more than a name
--   trees-begun, other-begun            one that begins the TREES block, or another
--   not-tree, name-lacks, equals-lacks  a command that gives no tree: not TREE, no name, no `=`
--   line-text             one that does: its text stands behind the `=`
--   ends-trees, line-wrong, line-brings     what a command of the TREES block does
use Rattle.std.specs.Prelude.{ℕ, ◌+◌, ◌≤◌, ◌<◌, Bool, ◌&&◌, List, [], ◌∷◌, map, eqb, leb, ltb, get_or, if◌then◌else◌}
use native.Mathlib.Omega.{arith}
use Rattle.std.proofs.Math.Path.{◌≡◌, refl, ap}
use Rattle.std.proofs.Common.{sym, ◌∙◌, ⊎_elim, true≢false}
use Rattle.std.proofs.Math.Bool.{true, false}
use Rattle.std.proofs.Math.Option.{none, some}
use Rattle.std.proofs.Math.ListN.{length}
use borrow.Author.Tests.{eq-eqb, ne_eqb, eqb-true, lt-ltb, le-ltb, ltb-true, le-leb}
use Rattle.trees.specs.Plain.{every, same_bytes, bytes}
use Rattle.trees.specs.Text.{is_blank}
use Rattle.trees.specs.Nexus.{uncommented, capital, is_word}
use Rattle.trees.specs.NexusReading.{first_token, behind_first, two_tokens, text_behind, name_and_text, read_line, is_end, wrong, block_begun, moved, line_given}
use Rattle.theorems.specs.ListLaws.{if-true, if-false, less-or-not}
use Rattle.text.specs.Read.{has_byte}
use Rattle.nexus.specs.declared.lines.Begun.TheVariants.{Other, Trees, Wrong}
use Rattle.nexus.specs.declared.lines.Line.TheVariants.{End, Text}
use Rattle.nexus.specs.declared.lines.Line.TheVariants as line
use Rattle.nexus.specs.declared.tokens.Token.{Token}
use Rattle.nexus.specs.Places.{part, plain_at, Skipped, TokenAt, NameEnd}
use Rattle.nexus.specs.PartLaws.{part_length}
use Rattle.nexus.specs.PlaceLaws.{plain-none, plain_byte, plain-as, blanks-only}
use Rattle.std.specs.Prelude.{Some, None}
use Rattle.nexus.specs.Commands.{BegunAs, LineAs, LineMoves}

-- ---- a command's first token

abbrev is_key : List ℕ → Token → List ℕ → Bool
is_key c t k = same_bytes (map capital (part t.from t.end c)) k

module _ (c : List ℕ) (t : Token) (u : TokenAt c 0 t) where
  pub end-not : is_key c t (bytes "END") ≡ false → is_end (uncommented false c) ≡ false
  unfolding is_end is_word
  end-not e = rw (u.token, e)

  pub end_is : (r : ℕ) → is_key c t (bytes "END") ≡ true → Skipped c t.end r → is_end (uncommented false c) ≡ eqb r (length c)
  unfolding is_end is_word
  end_is r e k = rw (u.token, e, u.behind) (blanks-only c t.end r k)

-- ---- a block's beginning

key-there : (w : List ℕ) (b : ℕ) (k : List ℕ) → same_bytes (map capital w) (b ∷ k) ≡ true → leb 1 (length w) ≡ true
unfolding same_bytes
key-there [] b k e = absurd (true≢false (sym e))
key-there (a ∷ w) b k e = le-leb 1 (length (a ∷ w)) (omega arith)

-- whether the bytes are two tokens
abbrev are_two : List ℕ → Bool
are_two s = leb 1 (length (first_token s)) && (leb 1 (length (first_token (behind_first s))) && every is_blank (behind_first (behind_first s)))

module _ (c : List ℕ) (t : Token) (u : TokenAt c 0 t) where
  pub not-begin : is_key c t (bytes "BEGIN") ≡ false → BegunAs c Wrong
  unfolding two_tokens block_begun is_word
  not-begin e came = go (are_two (uncommented false c))
    where
      go : (b : Bool) → block_begun came (if b then some (first_token (uncommented false c), first_token (behind_first (uncommented false c))) else none) ≡ wrong
      go true = rw (u.token, e)
      go false = refl

  module _ (x : Token) (v : TokenAt c t.end x) (b : is_key c t (bytes "BEGIN") ≡ true) where
    two : two_tokens (uncommented false c)
        ≡ (if leb 1 (length (part x.from x.end c)) && every is_blank (plain_at c x.end) then some (part t.from t.end c, part x.from x.end c) else none)
    unfolding two_tokens bytes
    two = rw (u.behind, v.token, v.behind, u.token, key-there (part t.from t.end c) _ _ b)

    pub no_name : x.from ≡ x.end → BegunAs c Wrong
    unfolding block_begun
    no_name e came =
        let l : length (part x.from x.end c) ≡ 0 = part_length c x.from x.end v.order v.within ∙ omega arith in
        ap (block_begun came) two ∙ rw l

    module _ (n : x.from ≡ x.end → ⊥) (r : ℕ) (k : Skipped c x.end r) where
      named : two_tokens (uncommented false c) ≡ (if eqb r (length c) then some (part t.from t.end c, part x.from x.end c) else none)
      named =
          let l = part_length c x.from x.end v.order v.within in
          let o = v.order in
          two ∙ rw (le-leb 1 (length (part x.from x.end c)) (omega arith), blanks-only c x.end r k)

      pub more-behind : r < length c → BegunAs c Wrong
      unfolding block_begun
      more-behind h came = ap (block_begun came) named ∙ rw (ne_eqb r (length c) (λ e. omega arith))

      alone : length c ≤ r → two_tokens (uncommented false c) ≡ some (part t.from t.end c, part x.from x.end c)
      alone h = let w = k.within in named ∙ if-true _ _ (eq-eqb r (length c) (omega arith))

      pub trees-begun : length c ≤ r → is_key c x (bytes "TREES") ≡ true → BegunAs c Trees
      unfolding block_begun is_word
      trees-begun h e came = ap (block_begun came) (alone h) ∙ rw (b, e)

      pub other-begun : length c ≤ r → is_key c x (bytes "TREES") ≡ false → BegunAs c Other
      unfolding block_begun is_word
      other-begun h e came = ap (block_begun came) (alone h) ∙ rw (b, e)

-- ---- a tree's line

has-at : (s : List ℕ) (i b : ℕ) → i < length s → has_byte s i b ≡ eqb (get_or s i 0) b
unfolding has_byte
has-at s i b h = rw (lt-ltb i (length s) h)

has_there : (s : List ℕ) (i b : ℕ) → has_byte s i b ≡ true → i < length s
unfolding has_byte
has_there s i b = go (ltb i (length s)) refl
  where
    go : (t : Bool) → ltb i (length s) ≡ t → (if t then eqb (get_or s i 0) b else false) ≡ true → i < length s
    go true l e = ltb-true i (length s) l
    go false l e = absurd (true≢false (sym e))

text-lacks : (c : List ℕ) (i : ℕ) → has_byte c i 61 ≡ false → text_behind (plain_at c i) ≡ none
unfolding text_behind
text-lacks c i e =
    ⊎_elim
    (λ h. plain-as (λ l. text_behind l ≡ none) c i h refl (λ t. refl) (λ t. if-false _ _ (sym (has-at c i 61 h) ∙ e)))
    (λ h. ap text_behind (plain-none c i h))
    (less-or-not i (length c))

text-there : (c : List ℕ) (i : ℕ) → has_byte c i 61 ≡ true → text_behind (plain_at c i) ≡ some (plain_at c (i + 1))
unfolding text_behind
text-there c i e =
    let h = has_there c i 61 e in
    let q : get_or c i 0 ≡ 61 = eqb-true (get_or c i 0) 61 (sym (has-at c i 61 h) ∙ e) in
    ap text_behind (plain_byte c i h (λ b. omega arith) (λ b. omega arith)) ∙ if-true _ _ (eq-eqb _ 61 q)

line-none : (c : List ℕ) → read_line (uncommented false c) ≡ none → LineAs c None
unfolding LineAs
line-none c e = e

module _ (c : List ℕ) (t : Token) (u : TokenAt c 0 t) where
  pub not-tree : is_key c t (bytes "TREE") ≡ false → LineAs c None
  unfolding read_line is_word
  not-tree e = line-none c (rw (u.token, e))

  module _ (k : is_key c t (bytes "TREE") ≡ true) (i e : ℕ) (v : Skipped c t.end i) (w : NameEnd c i e) where
    line-named : read_line (uncommented false c) ≡ name_and_text (plain_at c i)
    unfolding read_line is_word
    line-named = rw (u.token, k, u.behind, v.plain)

    pub name-lacks : e ≡ i → LineAs c None
    unfolding name_and_text
    name-lacks q = line-none c (line-named ∙ rw (w.begun, le-ltb i e (omega arith)))

    module _ (n : e ≡ i → ⊥) (q : ℕ) (x : Skipped c e q) where
      line-behind : read_line (uncommented false c) ≡ text_behind (plain_at c q)
      unfolding name_and_text
      line-behind = let l = w.past in line-named ∙ rw (w.begun, lt-ltb i e (omega arith), w.behind, x.plain)

      pub equals-lacks : has_byte c q 61 ≡ false → LineAs c None
      equals-lacks b = line-none c (line-behind ∙ text-lacks c q b)

      pub line-text : has_byte c q 61 ≡ true → LineAs c (Some (q + 1))
      unfolding LineAs
      line-text b = (omega (arith, has_there c q 61 b), line-behind ∙ text-there c q b)

-- ---- a command of the TREES block

module _ (c : List ℕ) where
  pub ends-trees : is_end (uncommented false c) ≡ true → LineMoves c End
  unfolding moved
  ends-trees e = record { moves = if-true _ _ e; within = λ i q. let z : ◌≡◌ {A = ℕ} 0 1 = cc in absurd (omega arith) }

  module _ (e : is_end (uncommented false c) ≡ false) where
    pub line-wrong : LineAs c None → LineMoves c line.Wrong
    unfolding LineAs moved line_given
    line-wrong l = record { moves = rw (e, l); within = λ i q. let z : ◌≡◌ {A = ℕ} 0 1 = cc in absurd (omega arith) }

    pub line-brings : (r : ℕ) → LineAs c (Some r) → LineMoves c (Text r)
    unfolding LineAs moved line_given
    line-brings r l = record { moves = rw (e, l.1); within = λ i q. let z : r ≡ i = cc in omega (arith, l.0) }
