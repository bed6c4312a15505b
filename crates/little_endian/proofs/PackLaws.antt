-- Rows of numbers and their bytes, both ways. Assumes nothing.
use mathlib.Core.Path.{◌≡◌, refl, ap, sym, ◌∙◌, subst}
use mathlib.Core.List.{List, [], ◌∷◌, ◌++◌, append_assoc}
use Prim.Native.Nat.{ℕ, zero, suc, ◌+◌, ◌*◌, ◌≤◌}
use native.Mathlib.Nat.{suc-mul, zero-mul}
use native.Mathlib.Omega.{arith}
use lib.ListN.{length, take, drop, length-append, length-drop}
use lib.Seq.{take_at, drop_at, drop-append_seam, take-add, length-take-le}
use Rattle.little_endian.specs.Number.{value, bytes, AllBytes}
use Rattle.little_endian.specs.Pack.{total, pack, unpack, packs, unpacks, Fits, AllFit}
use Rattle.little_endian.proofs.NumberLaws.{length_bytes, value_bytes, bytes_value, value_below, below_take, below_drop}

-- one row
pub length_pack : (ws vs : List ℕ) → Fits ws vs → length (pack ws vs) ≡ total ws
length_pack [] [] f = refl
length_pack [] (v ∷ vs) f = elim f [ ]
length_pack (w ∷ ws) [] f = elim f [ ]
length_pack (w ∷ ws) (v ∷ vs) f = rw (length-append, length_bytes w v, length_pack ws vs f.1)

pub unpack_pack : (ws vs rest : List ℕ) → Fits ws vs → unpack ws (pack ws vs ++ rest) ≡ vs
unpack_pack [] [] rest f = refl
unpack_pack [] (v ∷ vs) rest f = elim f [ ]
unpack_pack (w ∷ ws) [] rest f = elim f [ ]
unpack_pack (w ∷ ws) (v ∷ vs) rest f =
    let n = length_bytes w v in
    rw (
      append_assoc,
      take_at (bytes w v) (pack ws vs ++ rest) w n,
      drop_at (bytes w v) (pack ws vs ++ rest) w n,
      value_bytes w v f.0,
      unpack_pack ws vs rest f.1,
    )

pub pack_unpack : (ws bs : List ℕ) → AllBytes bs → total ws ≤ length bs → pack ws (unpack ws bs) ≡ take (total ws) bs
pack_unpack [] bs h l = refl
pack_unpack (w ∷ ws) bs h l =
    let e : length (take w bs) ≡ w = length-take-le w bs (omega arith) in
    let p : bytes w (value (take w bs)) ≡ take w bs = subst (λ (k : ℕ). bytes k (value (take w bs)) ≡ take w bs) e (bytes_value (take w bs) (below_take w bs h)) in
    rw (p, pack_unpack ws (drop w bs) (below_drop w bs h) (simp length-drop (omega arith)), take-add w (total ws) bs)

pub unpack_fits : (ws bs : List ℕ) → AllBytes bs → total ws ≤ length bs → Fits ws (unpack ws bs)
unpack_fits [] bs h l = tt
unpack_fits (w ∷ ws) bs h l =
    let e : length (take w bs) ≡ w = length-take-le w bs (omega arith) in
    (rw e at (value_below (take w bs) (below_take w bs h)), unpack_fits ws (drop w bs) (below_drop w bs h) (simp length-drop (omega arith)))

pub length_unpacks : (p : ℕ) (ws : List ℕ) (n : ℕ) (bs : List ℕ) → length (unpacks p ws n bs) ≡ n
length_unpacks p ws zero bs = refl
length_unpacks p ws (suc n) bs = ap suc (length_unpacks p ws n _)

pub unpacks_fit : (p : ℕ) (ws : List ℕ) (n : ℕ) (bs : List ℕ) → AllBytes bs → n * (p + total ws) ≤ length bs → AllFit ws (unpacks p ws n bs)
unpacks_fit p ws zero bs h l = tt
unpacks_fit p ws (suc n) bs h l =
    let m : n * (p + total ws) + (p + total ws) ≤ length bs = rw suc-mul at l in (
      unpack_fits ws (drop p bs) (below_drop p bs h) (simp length-drop (omega arith)),
      unpacks_fit p ws n (drop (p + total ws) bs) (below_drop (p + total ws) bs h) (simp length-drop (omega arith)),
    )

-- n rows of z bytes each begin with the bytes pre
abbrev pub Led : List ℕ → ℕ → ℕ → List ℕ → Type 0
Led pre z zero bs = Unit
Led pre z (suc n) bs = (take (length pre) bs ≡ pre) × Led pre z n (drop z bs)

-- rows one after another, each after pre
module _ (pre ws : List ℕ) where
  abbrev size : ℕ
  size = length pre + total ws

  length_row : (vs : List ℕ) → Fits ws vs → length (pre ++ pack ws vs) ≡ size
  length_row vs f = rw (length-append, length_pack ws vs f)

  pub length_packs : (vss : List (List ℕ)) → AllFit ws vss → length (packs pre ws vss) ≡ length vss * size
  length_packs [] f = sym (zero-mul size)
  length_packs (vs ∷ vss) f =
      rw (length-append (pre ++ pack ws vs) (packs pre ws vss), length_row vs f.0, length_packs vss f.1, suc-mul) (omega arith)

  -- what stands after one row
  pub past_row : (vs rest : List ℕ) → Fits ws vs → drop size ((pre ++ pack ws vs) ++ rest) ≡ rest
  past_row vs rest f = drop_at (pre ++ pack ws vs) rest size (length_row vs f)

  pub unpacks_packs : (vss : List (List ℕ)) (rest : List ℕ) → AllFit ws vss → unpacks (length pre) ws (length vss) (packs pre ws vss ++ rest) ≡ vss
  unpacks_packs [] rest f = refl
  unpacks_packs (vs ∷ vss) rest f =
      rw (
        append_assoc (pre ++ pack ws vs) (packs pre ws vss) rest,
        past_row vs (packs pre ws vss ++ rest) f.0,
        append_assoc pre (pack ws vs) (packs pre ws vss ++ rest),
        drop-append_seam pre (pack ws vs ++ (packs pre ws vss ++ rest)),
        unpack_pack ws vs (packs pre ws vss ++ rest) f.0,
        unpacks_packs vss rest f.1,
      )

  pub packs_unpacks : (n : ℕ) (bs : List ℕ) → AllBytes bs → n * size ≤ length bs → Led pre size n bs → packs pre ws (unpacks (length pre) ws n bs) ≡ take (n * size) bs
  packs_unpacks zero bs h l m = rw zero-mul
  packs_unpacks (suc n) bs h l m =
      let k : n * size + size ≤ length bs = rw suc-mul at l in
      let e : suc n * size ≡ size + n * size = rw suc-mul (omega arith) in
      let row : pre ++ pack ws (unpack ws (drop (length pre) bs)) ≡ take size bs =
      rw (pack_unpack ws (drop (length pre) bs) (below_drop (length pre) bs h) (simp length-drop (omega arith)), take-add (length pre) (total ws) bs, m.0) in
      ap (λ (x : List ℕ). x ++ packs pre ws (unpacks (length pre) ws n (drop size bs))) row
      ∙ ap (λ (x : List ℕ). take size bs ++ x) (packs_unpacks n (drop size bs) (below_drop size bs h) (simp length-drop (omega arith)) m.1)
      ∙ rw (e, take-add size (n * size) bs)
