-- In the plain texts of a NEXUS file no text ends, and no quotes are open behind them. Assumes nothing.
--
--   Unended w, AllUnended ws     no text ends in the bytes w, and no quotes are open behind them; so it is with all of ws
--   Parted q cs          so it is with the parts cs but the last; q: whether quotes are open before the first
--   parts-parted         what stands between semicolons is so parted
--   pairs-unended        a name of a TRANSLATE list is unended, as it is a label
--   lines-unended        so is the text of a tree's line, if the line is
--   replaced-unended     it stays so with keys replaced by such names
--   plain-unended        so every plain text of a file is
use Rattle.std.specs.Prelude.{ℕ, ◌≡◌, refl, Bool, ◌&&◌, not, eqb}
use Rattle.std.proofs.Common.{sym, inl, inr}
use Rattle.std.proofs.Math.Path.{subst}
use Rattle.std.proofs.Math.Bool.{true, false}
use mathlib.Core.List.{List, [], ◌∷◌, ◌++◌, map}
use Rattle.trees.specs.Plain.{every, member, same_bytes}
use Rattle.trees.specs.Text.{semicolon, apostrophe, is_blank, is_label_byte, turned, ends_text, with_byte, parts}
use Rattle.trees.specs.Nexus.{First, is-first, is-named, Pair, File, IsPairs, no-pair, a_pair, MayTranslate, no-list, a-list, is_name_byte, IsLine, is-line, IsLines, no_line, a-line, IsNexus}
use Rattle.trees.specs.NexusCall.{name_of, shown, free_behind, replaced_after, replaced, plain_texts}
use Rattle.theorems.specs.ListLaws.{by-test, by-elim, Mem}
use Rattle.theorems.specs.QuoteLaws.{other-turned, end-closed, end-turned}
use Rattle.theorems.specs.OutsideLaws.{Leads, leads-none, leads-more, other_byte, leads-append, leads-behind, label-leads}
use Rattle.theorems.specs.TokenLaws.{token-label}
use Rattle.theorems.specs.NexusLeft.{Lined, is-lined, Listed, is-listed, Began, is-began, file-began}

abbrev pub Unended : List ℕ → Type 0
Unended w = Leads semicolon false w false

abbrev pub AllUnended : List (List ℕ) → Type 0
AllUnended ws = (w : List ℕ) → Mem w ws → Unended w

-- ---- between semicolons

abbrev Parted : Bool → List (List ℕ) → Type 0
Parted q [] = Unit {0}
Parted q (c ∷ []) = Unit {0}
Parted q (c ∷ d ∷ cs) = Leads semicolon q c false × Parted false (d ∷ cs)

none-parted : (cs : List (List ℕ)) → Parted false cs → Parted false ([] ∷ cs)
none-parted [] p = tt
none-parted (c ∷ cs) p = (leads-none, p)

with-parted : (q : Bool) (b : ℕ) (cs : List (List ℕ)) → (not q && eqb b semicolon) ≡ false → Parted (turned q b) cs → Parted q (with_byte b cs)
unfolding with_byte
with-parted q b [] e p = tt
with-parted q b (c ∷ []) e p = tt
with-parted q b (c ∷ d ∷ cs) e p = (leads-more e p.0, p.1)

parts-parted : (q : Bool) (s : List ℕ) → Parted q (parts semicolon q s)
unfolding parts ends_text
parts-parted q [] = tt
parts-parted q (b ∷ s) =
    let r = parts semicolon (turned q b) s in
    by-test (Parted q) (not q && eqb b semicolon)
    (λ e. subst (λ (t : Bool). Parted t ([] ∷ r)) (sym (end-closed q b e)) (none-parted r (subst (λ (t : Bool). Parted t r) (end-turned q b e) (parts-parted (turned q b) s))))
    (λ e. with-parted q b r e (parts-parted (turned q b) s))

parted-behind : (xs ys : List (List ℕ)) → Parted false (xs ++ ys) → Parted false ys
parted-behind [] ys p = p
parted-behind (x ∷ []) [] p = tt
parted-behind (x ∷ []) (y ∷ ys) p = p.1
parted-behind (x ∷ z ∷ xs) ys p = parted-behind (z ∷ xs) ys p.1

parted-front : (xs : List (List ℕ)) (y : List ℕ) (ys : List (List ℕ)) → Parted false (xs ++ (y ∷ ys)) → AllUnended xs
parted-front [] y ys p c m = absurd m
parted-front (x ∷ []) y ys p c (inl e) = subst Unended (sym e) p.0
parted-front (x ∷ []) y ys p c (inr m) = absurd m
parted-front (x ∷ z ∷ xs) y ys p c (inl e) = subst Unended (sym e) p.0
parted-front (x ∷ z ∷ xs) y ys p c (inr m) = parted-front (z ∷ xs) y ys p.1 c m

-- ---- names

abbrev NamesUnended : List Pair → Type 0
NamesUnended ps = (p : Pair) → Mem p ps → Unended p.1

pub pairs-unended : {rs : List (List ℕ)} {ps : List Pair} → IsPairs rs ps → NamesUnended ps
unfolding is_label_byte member
pairs-unended no-pair p m = absurd m
pairs-unended (a_pair {n = n} f (is-named a e q blank label blanks) i) p (inl d) = subst (λ (r : Pair). Unended r.1) (sym d) (label-leads semicolon refl refl n label)
pairs-unended (a_pair f g i) p (inr m) = pairs-unended i p m

list-unended : {cs : List (List ℕ)} {ps : List Pair} → MayTranslate cs ps → NamesUnended ps
list-unended no-list p m = absurd m
list-unended (a-list f e i h) p m = pairs-unended i p m

-- ---- lines

behind-blanks : (a w : List ℕ) → every is_blank a ≡ true → Unended (a ++ w) → Unended w
unfolding is_blank member
behind-blanks a w e l = leads-behind semicolon is_blank refl refl a w e l

behind-labels : (a w : List ℕ) → every is_label_byte a ≡ true → Unended (a ++ w) → Unended w
unfolding is_label_byte member
behind-labels a w e l = leads-behind semicolon is_label_byte refl refl a w e l

behind-name : (a w : List ℕ) → every is_name_byte a ≡ true → Unended (a ++ w) → Unended w
unfolding is_name_byte is_label_byte member
behind-name a w e l = leads-behind semicolon is_name_byte refl refl a w e l

behind-equals : (t : List ℕ) → Unended (61 ∷ t) → Unended t
unfolding turned
behind-equals t (leads-more e l) = l

first-behind : {s w r : List ℕ} → First s w r → Unended s → Unended r
first-behind {s} {w} {r} (is-first a e blank tok stop) l = behind-labels w r (token-label w tok) (behind-blanks a (w ++ r) blank (subst Unended e l))

line-unended : {c t : List ℕ} → IsLine c t → Unended c → Unended t
line-unended {t = t} (is-line a n e f word q blank h name blanks) l =
    let x = behind-blanks a (n ++ (e ++ (61 ∷ t))) blank (subst Unended q (first-behind f l)) in
    behind-equals t (behind-blanks e (61 ∷ t) blanks (behind-name n (e ++ (61 ∷ t)) name x))

pub lines-unended : {cs ts : List (List ℕ)} → IsLines cs ts → AllUnended cs → AllUnended ts
lines-unended no_line all t m = absurd m
lines-unended (a-line {c = c} i l) all t (inl e) = subst Unended (sym e) (line-unended i (all c (inl refl)))
lines-unended (a-line i l) all t (inr m) = lines-unended l (λ d k. all d (inr k)) t m

-- ---- keys replaced

label-turned : (b : ℕ) → is_label_byte b ≡ true → turned false b ≡ false
unfolding is_label_byte member
label-turned b e = other-turned false b (other_byte is_label_byte b apostrophe e refl)

byte-unended : (b : ℕ) → is_label_byte b ≡ true → (not false && eqb b semicolon) ≡ false → Unended (b ∷ [])
byte-unended b f e = leads-more e (subst (λ (t : Bool). Leads semicolon t [] false) (sym (label-turned b f)) leads-none)

-- a run that has not ended: in quotes there is none
abbrev Run : Bool → List ℕ → Type 0
Run true w = w ≡ []
Run false w = Unended w

module _ (ps : List Pair) (names : NamesUnended ps) where
  name-unended : (qs : List Pair) → NamesUnended qs → (w : List ℕ) → Unended w → Unended (name_of qs w)
  unfolding name_of
  name-unended [] all w l = l
  name-unended (p ∷ qs) all w l = by-test Unended (same_bytes p.0 w) (λ d. all p (inl refl)) (λ d. name-unended qs (λ r m. all r (inr m)) w l)

  shown-unended : (free : Bool) (w : List ℕ) → Unended w → Unended (shown ps free w)
  unfolding shown
  shown-unended free [] l = l
  shown-unended true (b ∷ w) l = name-unended ps names (b ∷ w) l
  shown-unended false (b ∷ w) l = l

  run-leads : (q free : Bool) (w : List ℕ) → Run q w → Leads semicolon q (shown ps free w) q
  unfolding shown
  run-leads true free w e = subst (λ (v : List ℕ). Leads semicolon true (shown ps free v) true) (sym e) leads-none
  run-leads false free w l = shown-unended free w l

  no_run : (q : Bool) → Run q []
  no_run true = refl
  no_run false = leads-none

  after-unended : (q free : Bool) (w s : List ℕ) → Run q w → Leads semicolon q s false → Leads semicolon q (replaced_after ps q free w s) false
  unfolding replaced_after
  after-unended q free w [] r leads-none = run-leads q free w r
  after-unended true free w (b ∷ s) r (leads-more e l) =
      leads-append semicolon (run-leads true free w r) (leads-more e (after-unended (turned true b) (free_behind free w b) [] s (no_run (turned true b)) l))
  after-unended false free w (b ∷ s) r (leads-more e l) =
      by-elim Unended (is_label_byte b)
      (λ f. after-unended false free (w ++ b ∷ []) s (leads-append semicolon r (byte-unended b f e)) (subst (λ (t : Bool). Leads semicolon t s false) (label-turned b f) l))
      (λ f. leads-append semicolon (run-leads false free w r) (leads-more e (after-unended (turned false b) (free_behind free w b) [] s (no_run (turned false b)) l)))

  pub replaced-unended : (ts : List (List ℕ)) → AllUnended ts → AllUnended (map (replaced ps) ts)
  unfolding replaced
  replaced-unended [] all w x'' = elim x'' [ ]
  replaced-unended (t ∷ ts) all w (inl e) = subst Unended (sym e) (after-unended false true [] t leads-none (all t (inl refl)))
  replaced-unended (t ∷ ts) all w (inr m) = replaced-unended ts (λ v k. all v (inr k)) w m

-- ---- a file

lined-unended : {cs ts : List (List ℕ)} → Lined cs ts → Parted false cs → AllUnended ts
lined-unended (is-lined ls e ds q l i d) p = lines-unended l (parted-front ls e ds (subst (Parted false) q p))

listed-unended : {cs : List (List ℕ)} {x : File} → Listed cs x → Parted false cs → AllUnended (plain_texts x)
unfolding plain_texts
listed-unended {x = x} (is-listed ls ds q m l) p = replaced-unended x.pairs (list-unended m) x.texts (lined-unended l (parted-behind ls ds (subst (Parted false) q p)))

began-unended : {cs : List (List ℕ)} {x : File} → Began cs x → Parted false cs → AllUnended (plain_texts x)
began-unended (is-began os c w ds q o b word l) p = listed-unended l (parted-behind (c ∷ []) ds (parted-behind os (c ∷ ds) (subst (Parted false) q p)))

pub plain-unended : {f : List ℕ} {x : File} → IsNexus f x → AllUnended (plain_texts x)
plain-unended i = began-unended (file-began i).1 (parts-parted false _)
