-- In the Rust all flags of one word agree, so one flag can stand for them (document 01, "Lane word"). Assumes nothing.
use mathlib.Core.Bool.{Bool, true, false, ◌&&◌}
use mathlib.Core.List.{List, ◌∷◌}
use mathlib.Core.Path.{◌≡◌, refl, ap, ap₂, ◌∙◌}
use Prim.Native.Nat.{ℕ, zero, suc}
use native.Mathlib.Omega.{arith}
use lib.ListN.{replicate}
use Rattle.lane_word.specs.Flags.{Flags, unset, given, cloned, zipped, zip_flags, all_known, flag_of, FlagsAgree, OneFlag}

zip_replicate : (n : ℕ) (a b : Bool) → zip_flags (replicate n a) (replicate n b) ≡ replicate n (a && b)
unfolding zip_flags
zip_replicate zero a b = refl
zip_replicate (suc n) a b = ap (λ (l : List Bool). (a && b) ∷ l) (zip_replicate n a b)

agree : {n : ℕ} {ls : List Bool} (f : Flags n ls) → ls ≡ replicate n (flag_of f)
unfolding flag_of
agree unset = refl
agree given = refl
agree (cloned f) = agree f
agree {n} (zipped f g) = ap₂ zip_flags (agree f) (agree g) ∙ zip_replicate n (flag_of f) (flag_of g)

pub flags_agree : FlagsAgree
flags_agree n ls f = agree f

all_replicate : (n : ℕ) (a : Bool) → all_known (replicate (suc n) a) ≡ a
unfolding all_known
all_replicate n false = refl
all_replicate zero true = refl
all_replicate (suc n) true = all_replicate n true

pub one_flag : OneFlag
one_flag zero ls h f = absurd (omega arith)
one_flag (suc n) ls h f = ap all_known (agree f) ∙ all_replicate n (flag_of f)
