-- What a claim is answered, by what the lent bytes hold and what the reader says of the text. Assumes nothing.
--
--   prepared                          a whole store and the index of its names are what the reader asks for
-- of a text that is read in a whole store:
--   judged-refused                    where the reader refuses it, the claim is refused
--   judged-reach, judged-rising       where not, the records of its splits are there, and rise
--   judged-given                      and the claim is answered by comparing them with the splits in more than half of the trees
-- of a whole store and a text with its semicolon, in the order of the tests:
--   no-trees, too_long, not-ended     14, 6 and 7
--   claim-given                       else what is answered of the bytes before the semicolon
use Rattle.std.specs.Prelude.{ℕ, suc, ◌+◌, ◌*◌, ◌/◌, ◌≤◌, ◌<◌, ◌≡◌, true, List, length, take, drop, Result, Ok, Err}
use Rattle.std.proofs.Common.{arith, sym, ap, ap₂, ◌∙◌, length-append}
use Rattle.std.proofs.Math.Path.{subst}
use Rattle.std.proofs.Math.Bool.{false}
use borrow.Author.Tests.{lt-ltb, le-ltb, eq-eqb, ne_eqb}
use Rattle.trees.specs.Plain.{refused, gives}
use Rattle.trees.specs.Text.{before_end}
use Rattle.trees.specs.Verdict.{judged}
use Rattle.trees.specs.Consensus.{majority}
use Rattle.trees.specs.Held.{most_text}
use Rattle.trees.specs.Claim.{compared, ends_once, claimed_by, claim_of}
use Rattle.theorems.specs.RisingLaws.{Rising, rising-true}
use Rattle.theorems.specs.ConsensusLaws.{good-rising}
use Rattle.theorems.specs.VerdictLaws.{judged-good}
use Rattle.answers.specs.declared.Refusal.{Refusal}
use Rattle.answers.specs.declared.Refusal.TheVariants as why
use Rattle.answers.specs.Answers.{refusal_number, refusing}
use Rattle.text.specs.EndLaws.{before-take}
use Rattle.records.specs.Records.{wide, records_of, with_records, masks_of}
use Rattle.records.specs.RecordLaws.{records-length, masks-records}
use Rattle.head.specs.Head.{names_at, opening_at}
use Rattle.head.specs.Index.{Indexed}
use Rattle.newick.specs.Judge.{Prepared, JudgedAs}
use Rattle.layout.specs.Store.{trees_held_at, held_at, held_in}
use Rattle.layout.specs.WholeStore.{whole_at}
use Rattle.layout.specs.WholeFacts.{whole-at-facts}
use Rattle.store.specs.LentLaws.{when_whole, trees-none, trees-some}
use Rattle.consensus.specs.Chosen.{chosen}
use Rattle.consensus.specs.FewLaws.{majority-chosen}
use Rattle.claiming.specs.Claims.{claim_asked}

-- ---- a text that is read

pub prepared : (s : List ℕ) → whole_at s ≡ true → {starts links : List ℕ} → Indexed (names_at s) starts links → Prepared s starts links
prepared s w x = let h = (whole-at-facts s w).head in record { reach = h.head-there; good = h.opening-good; indexed = x }

module _ (s text : List ℕ) where
  by-refusal : (k : ℕ) → judged (opening_at s).names text ≡ refused k → claimed_by (held_at s) text ≡ refused k
  unfolding claimed_by held_in
  by-refusal k e = rw (claimed_by, e)

  by-splits : (l : List ℕ) → judged (opening_at s).names text ≡ gives l → claimed_by (held_at s) text ≡ gives (compared l (majority (held_at s).trees))
  unfolding claimed_by held_in
  by-splits l e = rw (claimed_by, e)

  module _ (r : Result ℕ Refusal) (u t : List ℕ) (h : JudgedAs (opening_at s) text r u t) where
    pub judged-refused : (q : Refusal) → r ≡ Err q → claimed_by (held_at s) text ≡ refusing q
    unfolding JudgedAs
    judged-refused q e = by-refusal (refusal_number q) (subst (λ (z : Result ℕ Refusal). JudgedAs (opening_at s) text z u t) e h).0

    module _ (k : ℕ) (e : r ≡ Ok k) where
      splits-given : (l : List ℕ) × (judged (opening_at s).names text ≡ gives l) × (k ≡ length l) × (t ≡ with_records (opening_at s) l u)
      unfolding JudgedAs
      splits-given = subst (λ (z : Result ℕ Refusal). JudgedAs (opening_at s) text z u t) e h

      masks-are : masks_of k t ≡ splits-given.0
      masks-are = let g = splits-given in ap₂ masks_of g.2 g.3 ∙ masks-records (opening_at s) g.0 (drop (wide * length g.0) u)

      pub judged-reach : wide * k ≤ length t
      judged-reach =
          let g = splits-given in
          let l = ap length g.3 ∙ length-append (records_of (opening_at s) g.0) (drop (wide * length g.0) u) in
          omega (arith, l, g.2, records-length (opening_at s) g.0)

      pub judged-rising : Rising (masks_of k t)
      judged-rising =
          let g = splits-given in
          subst Rising (sym masks-are) (rising-true g.0 (good-rising (length (opening_at s).names) g.0 (judged-good (opening_at s).names text g.0 g.1)))

      pub judged-given : whole_at s ≡ true → {n : ℕ} → n ≡ trees_held_at s
          → claimed_by (held_at s) text ≡ gives (compared (masks_of k t) (chosen (n / 2 + 1) (held_at s).trees))
      judged-given w {n} d =
          by-splits splits-given.0 splits-given.1 ∙ ap gives (ap₂ compared (sym masks-are) (sym (majority-chosen s w n d)))

-- ---- a text with its semicolon

module _ (s : List ℕ) (w : whole_at s ≡ true) (t : List ℕ) where
  asked : claim_asked s t ≡ claim_of (held_at s) t
  asked = when_whole s (λ h. claim_of h t) w

  pub no-trees : trees_held_at s ≡ 0 → claim_asked s t ≡ refusing why.NoTrees
  unfolding claim_of
  no-trees z = asked ∙ trees-none s _ z

  module _ (z : trees_held_at s ≡ 0 → ⊥) {n : ℕ} (e : n ≡ length (before_end false t)) where
    pub too_long : most_text < n → claim_asked s t ≡ refusing why.TooLong
    unfolding claim_of refusal_number
    too_long h = asked ∙ trees-some s _ z ∙ rw (← e, lt-ltb most_text n h)

    module _ (h : n ≤ most_text) where
      pub not-ended : (length t ≡ n + 1 → ⊥) → claim_asked s t ≡ refusing why.BadForm
      unfolding claim_of ends_once refusal_number
      not-ended f = asked ∙ trees-some s _ z ∙ rw (← e, le-ltb most_text n h, ne_eqb (length t) (suc n) (λ q. f (omega arith)))

      pub claim-given : length t ≡ n + 1 → claim_asked s t ≡ claimed_by (held_at s) (take n t)
      unfolding claim_of ends_once
      claim-given f =
          asked ∙ trees-some s _ z
          ∙ rw (← e, le-ltb most_text n h, eq-eqb (length t) (suc n) (omega arith), e, before-take false t)
