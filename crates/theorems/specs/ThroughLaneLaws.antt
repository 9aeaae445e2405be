-- Texts that are handed in may as well be fed, each with its semicolon, to an empty lane: as callers hand in single texts.
--
--   through_lane l c     the call c, with a text that is handed in fed to lane l
--   Handing cs          the calls cs hand in texts in which none ends, and withdraw trees, and are no others
--   through-lane        such calls answer the same through an empty lane, and leave the same
--   left-unended        the texts that are left are such texts
--   afresh-fed          so `afresh-accepted` and the like are true of feeding
--   room-serves-fed     and so is `room-serves-again`
use Rattle.std.specs.Prelude.{ℕ, zero, suc, ◌-◌, ◌<◌, ◌≡◌, refl, ◌⊎◌, true, List, [], ◌∷◌, ◌++◌, map, ltb, length, get_or}
use Rattle.std.proofs.Common.{ap, ap₂, sym, ◌∙◌, subst, inl, inr}
use Rattle.trees.specs.Text.{semicolon}
use Rattle.trees.specs.Opening.{Opening}
use Rattle.trees.specs.Held.{Held, Lane, holding, opened, lane_of, recording}
use Rattle.trees.specs.NexusCall.{on_text}
use Rattle.trees.specs.Withdrawing.{without_at, withdrawing}
use Rattle.trees.specs.Whole.{good_opening}
use Rattle.trees.specs.Runs.{Call, feed, hand, close, withdraw, Heard, answer, next, answers, ending}
use Rattle.theorems.specs.ListLaws.{Mem, mem-cases}
use Rattle.theorems.specs.PieceLaws.{get_d-all}
use Rattle.theorems.specs.OutsideLaws.{leads-none}
use Rattle.theorems.specs.NexusTextLaws.{Unended, AllUnended}
use Rattle.theorems.specs.NexusFedLaws.{fed_to, EmptyLane, empty-kept, text-after, text-heard}
use Rattle.theorems.specs.UnendedLaws.{tree-unended}
use Rattle.theorems.specs.WithdrawLaws.{without-mem, withdrawing-opening, withdrawing-texts}
use Rattle.theorems.specs.Remaining.{remaining, accepted_from, turns, turns_heard}
use Rattle.theorems.specs.AfreshLaws.{Left, left_end, afresh-accepted}
use Rattle.theorems.specs.RoomAgainLaws.{room-serves-again}

-- ---- a run through a lane

unfoldable pub through_lane : ℕ → Call → Call
through_lane l (feed j p) = feed j p
through_lane l (hand t) = feed l (t ++ semicolon ∷ [])
through_lane l (close j) = close j
through_lane l (withdraw k) = withdraw k

unfoldable pub Handing : List Call → Type 0
Handing [] = Unit {0}
Handing (feed l p ∷ cs) = ⊥
Handing (hand t ∷ cs) = Unended t × Handing cs
Handing (close l ∷ cs) = ⊥
Handing (withdraw k ∷ cs) = Handing cs

empty-stays : (h : Held) (l k : ℕ) → EmptyLane h l → EmptyLane (withdrawing h k).after l
unfolding lane_of
empty-stays h l k e = record {
  there = ap (λ o. ltb l o.numbers.lanes) (withdrawing-opening h k) ∙ e.there;
  empty = ap (λ (xs : List Lane). get_or xs l (holding [])) (withdrawing-texts h k) ∙ e.empty;
}

pub through-lane : (l : ℕ) (cs : List Call) (h : Held) → EmptyLane h l → Handing cs
    → (answers h (map (through_lane l) cs) ≡ answers h cs) × (ending h (map (through_lane l) cs) ≡ ending h cs)
unfolding answers ending through_lane Handing answer next
through-lane l (close _ ∷ cs) h e c = elim c [ ]
through-lane l (feed _ _ ∷ cs) h e c = elim c [ ]
through-lane l [] h e c = (refl, refl)
through-lane l (hand t ∷ cs) h e c =
    let k = recording h (on_text h t) in
    let rest = through-lane l cs k (empty-kept h l (on_text h t) e) c.1 in
    let a = text-after h l e t c.0 in (
      ap₂ (λ (x : Heard) (r : List Heard). x ∷ r) (text-heard h l e t c.0) (ap (λ (y : Held). answers y (map (through_lane l) cs)) a ∙ rest.0),
      ap (λ (y : Held). ending y (map (through_lane l) cs)) a ∙ rest.1,
    )
through-lane l (withdraw k ∷ cs) h e c =
    let rest = through-lane l cs (withdrawing h k).after (empty-stays h l k e) c in
    (ap (λ (r : List Heard). answer h (withdraw k) ∷ r) rest.0, rest.1)

-- ---- the texts that are left

pub left-unended : (h : Held) (ws : List (List ℕ)) → Left h ws → AllUnended ws
left-unended h ws x w m = tree-unended (x.each w m).faultless.tree

unended-at : (ws : List (List ℕ)) → AllUnended ws → (k : ℕ) → Unended (get_or ws k [])
unended-at [] u k = leads-none
unended-at (w ∷ ws) u zero = u w (inl refl)
unended-at (w ∷ ws) u (suc k) = unended-at ws (λ v m. u v (inr m)) k

hands-handing : (ws : List (List ℕ)) → AllUnended ws → Handing (map hand ws)
unfolding Handing
hands-handing [] u = tt
hands-handing (w ∷ ws) u = (u w (inl refl), hands-handing ws (λ v m. u v (inr m)))

turns-handing : (ks : List ℕ) (ws : List (List ℕ)) → AllUnended ws → Handing (turns ws ks)
unfolding Handing turns
turns-handing [] ws u = tt
turns-handing (k ∷ ks) ws u =
    let w = unended-at ws u k in
    (w, turns-handing ks (without_at k ws ++ get_or ws k [] ∷ []) (λ v m. again v w (mem-cases v (without_at k ws) (get_or ws k [] ∷ []) m)))
  where
    again : (v : List ℕ) → Unended (get_or ws k []) → Mem v (without_at k ws) ⊎ Mem v (get_or ws k [] ∷ []) → Unended v
    again v w (inr (inr x3)) = elim x3 [ ]
    again v w (inl m) = u v (without-mem k ws v m)
    again v w (inr (inl e)) = subst Unended (sym e) w

-- ---- fed

fed-hands : (l : ℕ) (ws : List (List ℕ)) → map (through_lane l) (map hand ws) ≡ fed_to l ws
unfolding through_lane
fed-hands l [] = refl
fed-hands l (w ∷ ws) = ap (λ (cs : List Call). feed l (w ++ semicolon ∷ []) ∷ cs) (fed-hands l ws)

module _ (o : Opening) (g : good_opening o ≡ true) (cs : List Call) (l : ℕ) where
  abbrev texts : List (List ℕ)
  texts = remaining [] (opened o) cs

  unended : AllUnended texts
  unended = left-unended (ending (opened o) cs) texts (left_end o g cs)

  opened-empty : ltb l o.numbers.lanes ≡ true → EmptyLane (opened o) l
  unfolding opened lane_of
  opened-empty e = record { there = e; empty = get_d-all o.numbers.lanes l (holding []) }

  pub afresh-fed : ltb l o.numbers.lanes ≡ true
      → (answers (opened o) (fed_to l texts) ≡ accepted_from 0 texts) × (ending (opened o) (fed_to l texts) ≡ ending (opened o) (map hand texts))
  afresh-fed e =
      let r = through-lane l (map hand texts) (opened o) (opened-empty e) (hands-handing texts unended) in (
        ap (answers (opened o)) (sym (fed-hands l texts)) ∙ r.0 ∙ afresh-accepted o g cs,
        ap (ending (opened o)) (sym (fed-hands l texts)) ∙ r.1,
      )

  -- to an empty lane, whatever the others hold
  pub room-serves-fed : EmptyLane (ending (opened o) cs) l → (ks : List ℕ) → ((k : ℕ) → Mem k ks → k < length (ending (opened o) cs).trees)
      → let h = ending (opened o) cs in
      (answers h (map (through_lane l) (turns texts ks)) ≡ turns_heard (length texts - 1) texts ks) × (ending h (map (through_lane l) (turns texts ks)) ≡ ending h (turns texts ks))
  room-serves-fed e ks f =
      let r = through-lane l (turns texts ks) (ending (opened o) cs) e (turns-handing ks texts unended) in
      (r.0 ∙ (room-serves-again o g cs ks f).heard, r.1)
