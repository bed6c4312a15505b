-- Laws of the search through rows, whatever they hold. Assumes nothing.
use Rattle.std.proofs.Common.{◌≡◌, ℕ, zero, suc, ◌+◌, ◌-◌, ◌<◌, ◌≤◌, Bool, true, false, cond, ltb, ◌⊎◌, refl, subst, inl, inr, ⊎_elim, arith, le-ltb, lt-ltb}
use Rattle.std.proofs.lemmas.Bool.{cases_eq, cases_lt}
use Rattle.std.proofs.lemmas.Bool.Decides.{nat_tests}
use Rattle.lane_memory.specs.Search.{next, stride, onward, ending, scan, hops, tries}
use Rattle.lane_memory.specs.declared.Probe.{Probe}
use Rattle.lane_memory.specs.declared.Probe.TheVariants.{Empty, Match, Other}
use Rattle.lane_memory.specs.declared.Found.{Found}
use Rattle.lane_memory.specs.declared.Found.TheVariants.{At, Free, Full}

pub next_below : (n s : ℕ) → s < n → next n s < n
next_below n s h = grind (arith, nat_tests)

pub stride_most : (n : ℕ) → stride n ≤ n
stride_most n = omega arith

pub onward_below : (n j s : ℕ) → s < n → onward n j s < n
onward_below n j s h = grind (arith, nat_tests)

-- t is among the j rows of n from s on: up to the last, then from the first
record Ahead (n j s t : ℕ) : Type 0 where
  here : s < n
  there : t < n
  among : ((s ≤ t) × (t < s + j)) ⊎ (t + n < s + j)

ahead_next : {n j s t : ℕ} → Ahead n (suc j) s t → (s ≡ t → ⊥) → Ahead n j (next n s) t
ahead_next {n} {j} {s} {t} w d =
    record {
      here = next_below n s w.here;
      there = w.there;
      among =
          ⊎_elim
          (λ l. rw (lt-ltb (s + 1) n l) (⊎_elim (λ p. inl (omega arith, omega arith)) (λ p. inr (omega arith)) w.among))
          (λ l. rw (le-ltb (s + 1) n l) (⊎_elim (λ p. absurd (d (omega (arith, w.there)))) (λ p. inl (omega arith, omega arith)) w.among))
          (cases_lt (s + 1) n);
    }

module _ (P : ℕ → Probe) (n : ℕ) where
  pub scan_step : (j s : ℕ) → 0 < j → scan P n j s ≡ ending (P s) s (scan P n (j - 1) (onward n (j - 1) s))
  unfolding scan
  scan_step zero s h = absurd (omega arith)
  scan_step (suc j) s h = let e : suc j - 1 ≡ j = omega arith in rw e

  -- what a search says of the row that it ends at
  abbrev pub Ends : Found → Type 0
  Ends (At t) = (P t ≡ Match) × (t < n)
  Ends (Free t) = (P t ≡ Empty) × (t < n)
  Ends Full = Unit {0}

  ends_on : (s : ℕ) (p : Probe) (r : Found) → P s ≡ p → s < n → Ends r → Ends (ending p s r)
  ends_on s Empty r q h k = (q, h)
  ends_on s Match r q h k = (q, h)
  ends_on s Other r q h k = k

  pub scan_ends : (j s : ℕ) → s < n → Ends (scan P n j s)
  unfolding scan
  scan_ends zero s h = tt
  scan_ends (suc j) s h = ends_on s (P s) _ refl h (scan_ends j (onward n j s) (onward_below n j s h))

  -- a search that ends with nothing has passed every row
  full_ends : {A : Type 0} (s : ℕ) (p : Probe) (r : Found) → P s ≡ p → (P s ≡ Other → r ≡ Full → A) → ending p s r ≡ Full → A
  full_ends s Empty r q k e = cc
  full_ends s Match r q k e = cc
  full_ends s Other r q k e = k q e

  -- the last rows are looked at one after another
  scan_ahead : (j s t : ℕ) → j ≤ n → Ahead n j s t → scan P n j s ≡ Full → P t ≡ Other
  unfolding scan
  scan_ahead zero s t l w e = absurd (⊎_elim (λ p. omega arith) (λ p. omega (arith, w.here)) w.among)
  scan_ahead (suc j) s t l w e =
      full_ends s (P s) _ refl
      (λ q f. ⊎_elim (λ z. rw z at q)
      (λ d. scan_ahead j (next n s) t (omega arith) (ahead_next w d) (rw (lt-ltb j n (omega arith)) at f)) (cases_eq s t)) e

  scan_all : (s t : ℕ) → s < n → t < n → scan P n n s ≡ Full → P t ≡ Other
  scan_all s t h b e =
      scan_ahead n s t (omega arith)
      (record { here = h; there = b; among = ⊎_elim (λ l. inr (omega arith)) (λ l. inl (l, omega arith)) (cases_lt t s) }) e

  -- hops come first
  scan_hops : (k s t : ℕ) → s < n → t < n → scan P n (n + k) s ≡ Full → P t ≡ Other
  unfolding scan
  scan_hops zero s t h b e = let z : n + 0 ≡ n = omega arith in scan_all s t h b (rw z at e)
  scan_hops (suc k) s t h b e =
      let z : n + suc k ≡ suc (n + k) = omega arith in
      full_ends s (P s) _ refl (λ q f. scan_hops k (onward n (n + k) s) t (onward_below n (n + k) s h) b f) (rw z at e)

  pub scan_full : (s t : ℕ) → s < n → t < n → scan P n (tries n) s ≡ Full → P t ≡ Other
  scan_full s t h b e = go (ltb n hops) e
    where
      go : (c : Bool) → scan P n (cond c n (n + hops)) s ≡ Full → P t ≡ Other
      go true e = scan_all s t h b e
      go false e = scan_hops hops s t h b e

-- P' is P
pub scan_same : (P P' : ℕ → Probe) (n : ℕ) → ((s : ℕ) → P' s ≡ P s) → (j s : ℕ) → scan P' n j s ≡ scan P n j s
unfolding scan
scan_same P P' n e zero s = refl
scan_same P P' n e (suc j) s = rw (e s, scan_same P P' n e j _)

-- P' is P, save at rows that were empty
pub record Grown (P P' : ℕ → Probe) : Type 0 where
  pub kept : (s : ℕ) → (P s ≡ Empty → ⊥) → P' s ≡ P s

module _ {P P' : ℕ → Probe} (g : Grown P P') where
  -- what was found stays found; a free row, once taken, is found
  abbrev Stays : Found → Found → Type 0
  Stays (At t) r = r ≡ At t
  Stays (Free t) r = P' t ≡ Match → r ≡ At t
  Stays Full r = Unit {0}

  stays_on : (s : ℕ) (p : Probe) (r r' : Found) → P s ≡ p → Stays r r' → Stays (ending p s r) (ending (P' s) s r')
  stays_on s Empty r r' q k = λ m. rw m
  stays_on s Match r r' q k = rw (g.kept s (λ p. cc), q)
  stays_on s Other r r' q k = rw (g.kept s (λ p. cc), q) k

  scan_stays : (n j s : ℕ) → Stays (scan P n j s) (scan P' n j s)
  unfolding scan
  scan_stays n zero s = tt
  scan_stays n (suc j) s = stays_on s (P s) _ _ refl (scan_stays n j (onward n j s))

  pub scan_keep : (n j s t : ℕ) → scan P n j s ≡ At t → scan P' n j s ≡ At t
  scan_keep n j s t e = subst (λ (r : Found). Stays r (scan P' n j s)) e (scan_stays n j s)

  pub scan_new : (n j s t : ℕ) → P' t ≡ Match → scan P n j s ≡ Free t → scan P' n j s ≡ At t
  scan_new n j s t m e = subst (λ (r : Found). Stays r (scan P' n j s)) e (scan_stays n j s) m
