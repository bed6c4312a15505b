-- What the tests of a load and the parts of a fetch come to. Assumes nothing.
use Rattle.std.specs.Prelude.{Err, None, Ok, Option, Result, Some}
use mathlib.Core.Path.{◌≡◌, refl, sym, ap, ap₂, ◌∙◌}
use mathlib.Core.Bool.{Bool, true, false, cond, ◌&&◌}
use mathlib.Core.List.{List, [], ◌∷◌}
use Prim.Native.Nat.{ℕ, zero, suc, ◌+◌, ◌-◌, ◌*◌, ◌%◌, ◌^◌, ◌≤◌, ◌<◌}
use native.Mathlib.Nat.{mod-eq_of_lt, pow-suc}
use native.Mathlib.Omega.{arith}
use borrow.Author.Tests.{eq-eqb, ne_eqb, lt-ltb, le-ltb, lt-leb, le-leb, leb-true}
use lib.Dec.{ltb, leb}
use lib.ListN.{length, get_or, replicate, take, drop, length-drop}
use lib.Seq.{drop-cons, length-take-le}
use Rattle.little_endian.specs.Number.{value, AllBytes}
use Rattle.little_endian.proofs.NumberLaws.{value_below, below_drop, below_take}
use Rattle.rv32_arithmetic.specs.Bits.{join}
use Rattle.riscv32imc.specs.Constants.{image_base}
use Rattle.lane_word.specs.declared.LaneWord.{LaneWord}
use Rattle.lane_word.specs.Word.{constant, binary, zip, every, uniform_of, lanes}
use Rattle.lane_word.specs.Told.{word_of, told_by}
use Rattle.lane_word.proofs.Clash.{clash}
use Rattle.lane_word.proofs.ToldLaws.{binary_constants, uniform_constant}
use Rattle.predicate_semantics.specs.Choice.{choose}
use Rattle.predicate_semantics.specs.Program.{Core, memory_end, initial}
use Rattle.predicate_semantics.specs.Memory.{LaneBytes, read}
use Rattle.predicate_semantics.specs.Standing.{standing_core, decoded_operation, expanded_word}
use Rattle.predicate_semantics.specs.Tested.{Tested, passed, refused, refuse, require, found, ◌>>=◌}
use Rattle.riscv32imc.specs.Expansion.{expand}
use Rattle.riscv_decode.specs.declared.Operation.{Operation}
use Rattle.riscv_decode.specs.Decode.{decode_of}
use Rattle.predicate_answer.specs.declared.Rv32Error.{Rv32Error}
use Rattle.predicate_answer.specs.declared.Rv32Error.TheVariants.{BelowMemory, PastMemory, Word, Halfword}
use Rattle.predicate_answer.specs.Refusal.{Refusal, refusal_of}
use Rattle.predicate_semantics.specs.Lane.{inside, agreed_as, agreed, access, access_agreed, decode_word, expand_halfword, fetch_four, fetch}
use Rattle.lane_memory.specs.Rows.{load_byte, told_byte, joined, Joined}
use Rattle.lane_memory.proofs.Laws.{load_below, told_byte_law, joined_value, joined_word}
use Rattle.lane_access.specs.Seen.{offset_of, seen, image_seen, told_seen, told_read}
use Rattle.lane_access.specs.InForce.{InForce}
use Rattle.lane_access.specs.Whole.{Lies}
use Rattle.lane_access.specs.Answers.{tested_of, told_load}
use Rattle.lane_word.specs.declared.UniformError.TheVariants.{Unknown, Uneven}

-- what the lanes agree on is the uniform test's answer
pub agreed_is : (role : ℕ) (w : LaneWord) → agreed role w ≡ agreed_as role (uniform_of w)
unfolding agreed
agreed_is role w = refl

-- a constant passes every uniform test
pub agreed_constant : (role v : ℕ) → agreed role (constant lanes v) ≡ passed v
agreed_constant role v = agreed_is role (constant lanes v) ∙ ap (agreed_as role) (uniform_constant lanes v (omega arith))

-- the byte by a test of where it lies
module _ (image rows : List ℕ) (a : ℕ) {b : Bool} (is : b ≡ ltb (offset_of a) (length image)) where
  pub seen_within : b ≡ true → seen image rows a ≡ constant lanes (initial image a)
  unfolding seen
  seen_within h = rw (sym is ∙ h)

  pub seen_past : b ≡ false → seen image rows a ≡ load_byte rows a 0
  unfolding seen
  seen_past h = rw (sym is ∙ h)

-- from memory's first byte on, memory starts with the image's bytes
initial_at : (image : List ℕ) (a : ℕ) → image_base ≤ a → initial image a ≡ get_or image (offset_of a) 0
unfolding initial
initial_at image a l = rw (le-ltb a image_base l)

-- ---- a byte, by what the image has of it

module _ (image : List ℕ) (a : ℕ) where
  pub image_at : image_base ≤ a → offset_of a < length image → image_seen image a ≡ Some (get_or image (offset_of a) 0)
  unfolding image_seen
  image_at l h = rw (lt-ltb (offset_of a) (length image) h, initial_at image a l)

  pub image_below : a < image_base → 0 < length image → image_seen image a ≡ Some 0
  unfolding image_seen initial
  image_below l h = let z : offset_of a ≡ 0 = omega arith in rw (lt-ltb (offset_of a) (length image) (omega arith), lt-ltb a image_base l)

  pub image_past : length image ≤ offset_of a → image_seen image a ≡ None
  unfolding image_seen
  image_past h = rw (le-ltb (offset_of a) (length image) h)

  module _ (rows : List ℕ) where
    by_image : {A : Type 0} (f : ℕ → A) (z : A) (b : Bool) {v : ℕ} → Some v ≡ cond b (Some (initial image a)) None → cond b (f (initial image a)) z ≡ f v
    by_image f z true {v} e = let q : initial image a ≡ v = cc in rw q
    by_image f z false {v} e = absurd (clash (cc))

    by_rows : {A : Type 0} (x z : A) (b : Bool) → ◌≡◌ {A = Option ℕ} None (cond b (Some (initial image a)) None) → cond b x z ≡ z
    by_rows x z true e = absurd (clash (cc))
    by_rows x z false e = refl

    pub tells_image : {v : ℕ} → Some v ≡ image_seen image a → told_seen image rows a ≡ Some v
    unfolding image_seen told_seen
    tells_image e = by_image Some (told_byte rows a 0) (ltb (offset_of a) (length image)) e

    pub tells_rows : None ≡ image_seen image a → told_seen image rows a ≡ told_byte rows a 0
    unfolding image_seen told_seen
    tells_rows e = by_rows (Some (initial image a)) (told_byte rows a 0) (ltb (offset_of a) (length image)) e

    seen_image : {v : ℕ} → Some v ≡ image_seen image a → seen image rows a ≡ constant lanes v
    unfolding image_seen seen
    seen_image e = by_image (constant lanes) (load_byte rows a 0) (ltb (offset_of a) (length image)) e

    seen_rows : None ≡ image_seen image a → seen image rows a ≡ load_byte rows a 0
    unfolding image_seen seen
    seen_rows e = by_rows (constant lanes (initial image a)) (load_byte rows a 0) (ltb (offset_of a) (length image)) e

    pub joins_image : {v : ℕ} (high : List ℕ) {values : List ℕ} → Some v ≡ image_seen image a → values ≡ joined (constant lanes v) high
        → Joined (seen image rows a) high true values
    joins_image {v} high e j = rw (seen_image e) (joined_value high refl j)

    pub joins_rows : (high : List ℕ) {values : List ℕ} {known : Bool} → None ≡ image_seen image a → Joined (load_byte rows a 0) high known values
        → Joined (seen image rows a) high known values
    joins_rows high e j = rw (seen_rows e) j

-- ---- a number joined from its highest byte down

-- what the bytes from one on come to
abbrev pub rest : {A : Type 0} → (ℕ → ℕ → A) → ℕ → ℕ → ℕ → A
rest f n a left = f (n - left) (a + left)

module _ {A : Type 0} (f : ℕ → ℕ → A) (n a : ℕ) where
  pub rest_none : rest f n a n ≡ f 0 (a + n)
  rest_none = let z : n - n ≡ 0 = omega arith in rw z

  pub rest_more : (g : ℕ → A → A) → ((k x : ℕ) → f (suc k) x ≡ g x (f k (suc x))) → (left : ℕ) → left ≤ n → 0 < left
      → rest f n a (left - 1) ≡ g (a + (left - 1)) (rest f n a left)
  rest_more g step left h k =
      let e : n - (left - 1) ≡ suc (n - left) = omega arith in
      let d : suc (a + (left - 1)) ≡ a + left = omega arith in
      rw (e, step (n - left) (a + (left - 1)), d)

  pub rest_all : (left : ℕ) → left ≤ 0 → rest f n a left ≡ f n a
  rest_all left h =
      let z : left ≡ 0 = omega arith in
      let e : n - 0 ≡ n = omega arith in
      let d : a + 0 ≡ a = omega arith in
      rw (z, e, d)

-- a byte below those above it, in lanes and as told
pub read_more : (memory : LaneBytes) (k x : ℕ) → read lanes memory (suc k) x ≡ binary join (memory x) (read lanes memory k (suc x))
unfolding read
read_more memory k x = refl

pub told_more : (told : ℕ → Option ℕ) (k x : ℕ) → told_read told (suc k) x ≡ told_by join (told x) (told_read told k (suc x))
unfolding told_read
told_more told k x = refl

-- a lane word with one byte more, joined below
pub read_step : (memory : LaneBytes) (n a left : ℕ) {high values : List ℕ} {known r : Bool} → left ≤ n → 0 < left → length high ≡ lanes
    → record { values = high; known = known } ≡ rest (read lanes memory) n a left → Joined (memory (a + (left - 1))) high r values
    → record { values = values; known = known && r } ≡ rest (read lanes memory) n a (left - 1)
read_step memory n a left {high} {values} {known} {r} h k size e j =
    joined_word (memory (a + (left - 1))) high known size j (both known r)
    ∙ ap (binary join (memory (a + (left - 1)))) e
    ∙ sym (rest_more (read lanes memory) n a (λ x. binary join (memory x)) (read_more memory) left h k)
  where
    both : (x y : Bool) → (x && y) ≡ (y && x)
    both true true = refl
    both true false = refl
    both false true = refl
    both false false = refl

pub read_first : (memory : LaneBytes) (n a : ℕ) → record { values = replicate lanes 0; known = true } ≡ rest (read lanes memory) n a n
unfolding constant read
read_first memory n a = sym (rest_none (read lanes memory) n a)

-- ---- what one value tells

-- a told value is the word's in every lane: putting it in the word's place changes nothing
told_fits : (u : Option ℕ) (w : LaneWord) → ((v : ℕ) → u ≡ Some v → w ≡ constant lanes v) → word_of u w ≡ w
told_fits (Some v) w h = sym (h v refl)
told_fits None w h = refl

seen_told : (image rows : List ℕ) (a : ℕ) → word_of (told_seen image rows a) (seen image rows a) ≡ seen image rows a
unfolding told_seen seen
seen_told image rows a = go (ltb (offset_of a) (length image))
  where
    go : (b : Bool)
        → word_of (cond b (Some (initial image a)) (told_byte rows a 0)) (cond b (constant lanes (initial image a)) (load_byte rows a 0))
        ≡ cond b (constant lanes (initial image a)) (load_byte rows a 0)
    go true = refl
    go false = told_fits (told_byte rows a 0) (load_byte rows a 0) (λ v e. told_byte_law rows a 0 e)

by_told : (f : ℕ → ℕ → ℕ) (u v : Option ℕ) (x y : LaneWord) → word_of u x ≡ x → word_of v y ≡ y → word_of (told_by f u v) (binary f x y) ≡ binary f x y
by_told f (Some a) (Some b) x y p q = rw (← p, ← q, binary_constants f lanes a b)
by_told f (Some a) None x y p q = refl
by_told f None v x y p q = refl

-- what is told of a number is its word
read_told : (image rows : List ℕ) (n a : ℕ) → word_of (told_read (told_seen image rows) n a) (read lanes (seen image rows) n a) ≡ read lanes (seen image rows) n a
unfolding told_read read
read_told image rows zero a = refl
read_told image rows (suc n) a =
    by_told join (told_seen image rows a) (told_read (told_seen image rows) n (suc a)) (seen image rows a) (read lanes (seen image rows) n (suc a))
    (seen_told image rows a) (read_told image rows n (suc a))

-- .. so one value that is told of it is in every lane
told_word : (image rows : List ℕ) (n a : ℕ) {v : ℕ} → told_read (told_seen image rows) n a ≡ Some v → read lanes (seen image rows) n a ≡ constant lanes v
told_word image rows n a e = sym (ap (λ (u : Option ℕ). word_of u (read lanes (seen image rows) n a)) (sym e) ∙ read_told image rows n a)

-- bytes that are not told leave the whole number to its lanes
lanes_above : (f : ℕ → ℕ → ℕ) (u : Option ℕ) → told_by f u None ≡ None
lanes_above f (Some a) = refl
lanes_above f None = refl

module _ (told : ℕ → Option ℕ) (n a : ℕ) where
  -- one byte more, below those that are joined
  told_below : (left : ℕ) → left ≤ n → 0 < left → rest (told_read told) n a (left - 1) ≡ told_by join (told (a + (left - 1))) (rest (told_read told) n a left)
  told_below left h k = rest_more (told_read told) n a (λ x. told_by join (told x)) (told_more told) left h k

  pub told_step : {left byte number : ℕ} → left ≤ n → 0 < left → Some byte ≡ told (a + (left - 1)) → Some number ≡ rest (told_read told) n a left
      → Some (join byte number) ≡ rest (told_read told) n a (left - 1)
  told_step {left} h k e f = sym (told_below left h k ∙ ap₂ (told_by join) (sym e) (sym f))

  told_above : (left : ℕ) → left ≤ n → rest (told_read told) n a left ≡ None → told_read told n a ≡ None
  told_above zero h e = sym (rest_all (told_read told) n a 0 (omega arith)) ∙ e
  told_above (suc left) h e =
      let z : suc left - 1 ≡ left = omega arith in
      told_above left (omega arith)
      (rw z at (told_below (suc left) h (omega arith)) ∙ ap (told_by join (told (a + left))) e ∙ lanes_above join (told (a + left)))

  pub told_ends : {left : ℕ} → left ≤ n → 0 < left → None ≡ told (a + (left - 1)) → None ≡ told_read told n a
  told_ends {left} h k e =
      sym (told_above (left - 1) (omega arith) (told_below left h k ∙ ap (λ (u : Option ℕ). told_by join u (rest (told_read told) n a left)) (sym e)))

-- joining stays within a word where the number has at most four bytes
small : (n : ℕ) → n ≤ 3 → 256 ^ n ≤ 16777216
small zero h = omega arith
small (suc zero) h = omega arith
small (suc (suc zero)) h = omega arith
small (suc (suc (suc zero))) h = omega arith
small (suc (suc (suc (suc n)))) h = absurd (omega arith)

join_small : (x y n : ℕ) → x < 256 → y < 256 ^ n → n ≤ 3 → join x y ≡ x + 256 * y
join_small x y n hx hy hn =
    let b : 256 ^ n ≤ 16777216 = small n hn in
    mod-eq_of_lt (omega arith)

-- a number that lies whole in the image is told
told_image : (image rows : List ℕ) → AllBytes image → (n a : ℕ) → n ≤ 4 → image_base ≤ a → offset_of a + n ≤ length image
    → told_read (told_seen image rows) n a ≡ Some (value (take n (drop (offset_of a) image)))
unfolding told_read told_seen
told_image image rows h zero a k l f = refl
told_image image rows h (suc n) a k l f =
    let o : ℕ = offset_of a in
    let e : offset_of (suc a) ≡ suc o = omega arith in
    let rest : List ℕ = take n (drop (suc o) image) in
    let size : length rest ≡ n = length-take-le n (drop (suc o) image) (simp length-drop (omega arith)) in
    let b : value rest < 256 ^ length rest = value_below rest (below_take n (drop (suc o) image) (below_drop (suc o) image h)) in
    let b' : value rest < 256 ^ n = rw size at b in
    let j : join (get_or image o 0) (value rest) ≡ get_or image o 0 + 256 * value rest = join_small _ _ n (h o) b' (omega arith) in
    let ih : told_read (told_seen image rows) n (suc a) ≡ Some (value rest)
    = rw e at (told_image image rows h n (suc a) (omega arith) (omega arith) (omega arith)) in
    rw (lt-ltb o (length image) (omega arith), ih, initial_at image a l, j, drop-cons image o 0 (omega arith))

-- a number lies there where as many bytes are left from its offset on
pub lies_left : {image : List ℕ} {a o v n : ℕ} → n ≤ 4 → o ≡ offset_of a → o < length image → leb n (length image - o) ≡ true → v ≡ value (take n (drop o image)) → Lies v image a n
lies_left {image} {a} {o} {v} {n} k e h b is = record { small = k; fits = omega (arith, e, h, leb-true n (length image - o) b); is = rw (← e) is }

pub lies_told : (image rows : List ℕ) → AllBytes image → (v n a : ℕ) → image_base ≤ a → Lies v image a n → Some v ≡ told_read (told_seen image rows) n a
lies_told image rows h v n a l f = ap Some f.is ∙ sym (told_image image rows h n a f.small l f.fits)

-- ---- a load after its range, and what its lanes agree on

pub inside_fits : (a n : ℕ) → inside a n ≡ passed tt → (image_base ≤ a) × (a + n ≤ memory_end)
unfolding inside require refuse ◌>>=◌
inside_fits a n h = go (leb image_base a) (leb (a + n) memory_end) refl refl h
  where
    go : (b c : Bool) → leb image_base a ≡ b → leb (a + n) memory_end ≡ c → (require 4 b >>= λ _. require 5 c) ≡ passed tt → (image_base ≤ a) × (a + n ≤ memory_end)
    go true true p q h = (leb-true _ _ p, leb-true _ _ q)
    go true false p q h = absurd (clash (cc))
    go false c p q h = absurd (clash (cc))

pub fits_inside : (a n : ℕ) → image_base ≤ a → a + n ≤ memory_end → inside a n ≡ passed tt
unfolding inside require refuse ◌>>=◌
fits_inside a n l h = rw (le-leb image_base a l, le-leb (a + n) memory_end h)

pub inside_below : (a n : ℕ) → a < image_base → inside a n ≡ refused (refusal_of BelowMemory)
unfolding inside require refuse ◌>>=◌
inside_below a n l = rw (lt-leb image_base a l)

pub inside_past : (a n : ℕ) → image_base ≤ a → memory_end < a + n → inside a n ≡ refused (refusal_of PastMemory)
unfolding inside require refuse ◌>>=◌
inside_past a n l h = rw (le-leb image_base a l, lt-leb (a + n) memory_end h)

module _ (memory : LaneBytes) (n a : ℕ) where
  pub access_inside : inside a n ≡ passed tt → access lanes memory n a ≡ passed (read lanes memory n a)
  unfolding access ◌>>=◌
  access_inside h = rw h

  pub access_outside : (r : Refusal) → inside a n ≡ refused r → access lanes memory n a ≡ refused r
  unfolding access ◌>>=◌
  access_outside r h = rw h

  -- the word of a load whose range passed, as a match finds it and as a whole
  pub accessed_word : {w : LaneWord} → inside a n ≡ passed tt → passed w ≡ access lanes memory n a → w ≡ read lanes memory n a
  accessed_word h e = let q = e ∙ access_inside h in cc

  pub accessed_is : (r : Result LaneWord Rv32Error) → inside a n ≡ passed tt → tested_of r ≡ access lanes memory n a → r ≡ Ok (read lanes memory n a)
  accessed_is (Ok w) h e = ap Ok (accessed_word h e)
  accessed_is (Err x) h e = let q : refused (refusal_of x) ≡ passed (read lanes memory n a) = e ∙ access_inside h in absurd (clash (cc))

  module _ (role : ℕ) where
    -- what a load comes to, in its lanes
    pub agreed_accessed : {w : LaneWord} → passed w ≡ access lanes memory n a → access_agreed lanes role memory n a ≡ agreed role w
    unfolding access_agreed ◌>>=◌
    agreed_accessed e = rw (← e)

    pub agreed_refused : {r : Refusal} → refused r ≡ access lanes memory n a → access_agreed lanes role memory n a ≡ refused r
    unfolding access_agreed ◌>>=◌
    agreed_refused e = rw (← e)

    pub agreed_inside : inside a n ≡ passed tt → access_agreed lanes role memory n a ≡ agreed role (read lanes memory n a)
    agreed_inside h = agreed_accessed (sym (access_inside h))

    pub agreed_outside : (r : Refusal) → inside a n ≡ refused r → access_agreed lanes role memory n a ≡ refused r
    agreed_outside r h = agreed_refused (sym (access_outside r h))

-- what the answer to a load says: its range, and of one value that it is the load's word
abbrev pub LoadsAs : LaneBytes → ℕ → ℕ → Result (Option ℕ) Rv32Error → Type 0
LoadsAs memory n a (Ok (Some v)) = (inside a n ≡ passed tt) × (read lanes memory n a ≡ constant lanes v)
LoadsAs memory n a (Ok None) = inside a n ≡ passed tt
LoadsAs memory n a (Err e) = inside a n ≡ refused (refusal_of e)

pub loads : (image rows : List ℕ) (n a : ℕ) (r : Result (Option ℕ) Rv32Error) → tested_of r ≡ told_load image rows n a → LoadsAs (seen image rows) n a r
unfolding told_load ◌>>=◌
loads image rows n a r e = go r (inside a n) refl e
  where
    go : (r : Result (Option ℕ) Rv32Error) (t : Tested (Unit {0})) → inside a n ≡ t → tested_of r ≡ (t >>= λ _. passed (told_read (told_seen image rows) n a)) → LoadsAs (seen image rows) n a r
    go (Ok (Some v)) (passed u) p e = let q : told_read (told_seen image rows) n a ≡ Some v = cc in (p, told_word image rows n a q)
    go (Ok (Some v)) (refused x) p e = absurd (clash (cc))
    go (Ok None) (passed u) p e = p
    go (Ok None) (refused x) p e = absurd (clash (cc))
    go (Err r) (passed u) p e = absurd (clash (cc))
    go (Err r) (refused x) p e = let q : x ≡ refusal_of r = cc in p ∙ ap refused q

module _ (image rows : List ℕ) (n a : ℕ) where
  -- the answer to a load that one value may tell
  pub load_told : inside a n ≡ passed tt → told_load image rows n a ≡ passed (told_read (told_seen image rows) n a)
  unfolding told_load ◌>>=◌
  load_told h = rw h

  pub load_refused : (r : Refusal) → inside a n ≡ refused r → told_load image rows n a ≡ refused r
  unfolding told_load ◌>>=◌
  load_refused r h = rw h

  -- .. is what its lanes agree on
  pub agreed_told : (role : ℕ) {v : ℕ} → passed (Some v) ≡ told_load image rows n a → access_agreed lanes role (seen image rows) n a ≡ passed v
  agreed_told role {v} e =
      let h = loads image rows n a (Ok (Some v)) e in
      agreed_inside (seen image rows) n a role h.0 ∙ ap (agreed role) h.1 ∙ agreed_constant role v

  pub agreed_out : (role : ℕ) (e : Rv32Error) → refused (refusal_of e) ≡ told_load image rows n a
      → access_agreed lanes role (seen image rows) n a ≡ refused (refusal_of e)
  agreed_out role e h = agreed_outside (seen image rows) n a role (refusal_of e) (loads image rows n a (Err e) h)

-- ---- two bytes are below 65536

-- the first lane of joined words, which is what the lanes agree on
first_join : (xs ys : List ℕ) (n : ℕ) → get_or xs 0 0 < 256 → get_or ys 0 0 < 256 ^ n → n ≤ 3 → get_or (zip join xs ys) 0 0 < 256 ^ suc n
unfolding zip
first_join [] ys n hx hy hn = omega (arith, pow-suc 256 n)
first_join (x ∷ xs) [] n hx hy hn = omega (arith, pow-suc 256 n)
first_join (x ∷ xs) (y ∷ ys) n hx hy hn = rw (join_small x y n hx hy hn) (omega (arith, pow-suc 256 n))

first_read : (memory : LaneBytes) → ((a : ℕ) → get_or (memory a).values 0 0 < 256) → (n a : ℕ) → n ≤ 4 → get_or (read lanes memory n a).values 0 0 < 256 ^ n
unfolding read binary constant
first_read memory h zero a k = omega arith
first_read memory h (suc n) a k =
    first_join (memory a).values (read lanes memory n (suc a)).values n (h a) (first_read memory h n (suc a) (omega arith)) (omega arith)

first_seen : (image rows : List ℕ) → AllBytes image → AllBytes rows → (a : ℕ) → get_or (seen image rows a).values 0 0 < 256
unfolding seen initial constant
first_seen image rows h k a = go (ltb (offset_of a) (length image)) (ltb a image_base)
  where
    go : (b c : Bool) → get_or (cond b (constant lanes (cond c 0 (get_or image (offset_of a) 0))) (load_byte rows a 0)).values 0 0 < 256
    go true true = omega arith
    go true false = h (offset_of a)
    go false c = load_below rows a 0 k (omega arith) 0

agreed_first : (role v : ℕ) (w : LaneWord) → agreed role w ≡ passed v → get_or w.values 0 0 ≡ v
unfolding agreed uniform_of refuse
agreed_first role v w h = go w.known (every (get_or w.values 0 0) w.values) h
  where
    go : (b c : Bool) → agreed_as role (cond b (cond c (Ok (get_or w.values 0 0)) (Err Uneven)) (Err Unknown)) ≡ passed v → get_or w.values 0 0 ≡ v
    go true true h = cc
    go true false h = absurd (clash (cc))
    go false c h = absurd (clash (cc))

pub half_below : (image rows : List ℕ) → AllBytes image → AllBytes rows → (role a v : ℕ) → access_agreed lanes role (seen image rows) 2 a ≡ passed v → v < 65536
half_below image rows h k role a v e = go (inside a 2) refl
  where
    go : (t : Tested (Unit {0})) → inside a 2 ≡ t → v < 65536
    go (passed tt) p =
        let f : get_or (read lanes (seen image rows) 2 a).values 0 0 ≡ v
        = agreed_first role v (read lanes (seen image rows) 2 a) (sym (agreed_inside (seen image rows) 2 a role p) ∙ e) in
        rw f at (first_read (seen image rows) (first_seen image rows h k) 2 a (omega arith))
    go (refused r) p = let q : refused r ≡ passed v = sym (agreed_outside (seen image rows) 2 a role r p) ∙ e in absurd (clash (cc))

-- ---- four bytes of the image at once

-- their low half is the number in the first two
low_half : (bs : List ℕ) → AllBytes bs → value (take 4 bs) % 65536 ≡ value (take 2 bs)
low_half [] h = refl
low_half (b ∷ []) h = omega (arith, h 0)
low_half (b ∷ d ∷ bs) h = omega (arith, h 0, h 1)

-- a fetch's loads of two bytes and of four agree on v's low half and on v
pub record Begins (memory : LaneBytes) (pc v : ℕ) : Type 0 where
  pub half : access_agreed lanes 1 memory 2 pc ≡ passed (v % 65536)
  pub whole : access_agreed lanes 1 memory 4 pc ≡ passed v

module _ (image rows : List ℕ) (h : AllBytes image) (a : ℕ) where
  lies_agreed : (role v n : ℕ) → inside a n ≡ passed tt → Lies v image a n → access_agreed lanes role (seen image rows) n a ≡ passed v
  lies_agreed role v n p f =
      agreed_inside (seen image rows) n a role p
      ∙ ap (agreed role) (told_word image rows n a (sym (lies_told image rows h v n a (inside_fits a n p).0 f)))
      ∙ agreed_constant role v

  lies_half : {v : ℕ} → Lies v image a 4 → Lies (v % 65536) image a 2
  lies_half f = record {
    small = omega arith;
    fits = omega (arith, f.fits);
    is = ap (λ (x : ℕ). x % 65536) f.is ∙ low_half (drop (offset_of a) image) (below_drop (offset_of a) image h);
  }

  pub lies_begins : {v : ℕ} → inside a 4 ≡ passed tt → Lies v image a 4 → Begins (seen image rows) a v
  lies_begins {v} p f =
      let i = inside_fits a 4 p in
      record {
        half = lies_agreed 1 (v % 65536) 2 (fits_inside a 2 i.0 (omega (arith, i.1))) (lies_half f);
        whole = lies_agreed 1 v 4 p f;
      }

-- ---- the ways of a fetch

module _ (core : Core) (memory : LaneBytes) (pc steps : ℕ) where
  pub fetch_refused : (r : Refusal) → access_agreed lanes 1 memory 2 pc ≡ refused r → fetch lanes core memory steps pc ≡ refused r
  unfolding fetch ◌>>=◌
  fetch_refused r h = rw h

  pub fetch_whole : (half : ℕ) → access_agreed lanes 1 memory 2 pc ≡ passed half → half % 4 ≡ 3
      → fetch lanes core memory steps pc ≡ fetch_four lanes core memory steps pc
  unfolding fetch choose ◌>>=◌
  fetch_whole half h e = rw (h, eq-eqb (half % 4) 3 e)

  pub fetch_half : (half : ℕ) → access_agreed lanes 1 memory 2 pc ≡ passed half → (half % 4 ≡ 3 → ⊥)
      → fetch lanes core memory steps pc ≡ expand_halfword core steps half
  unfolding fetch choose ◌>>=◌
  fetch_half half h e = rw (h, ne_eqb (half % 4) 3 e)

  -- its four bytes
  pub four_whole : (word : ℕ) → access_agreed lanes 1 memory 4 pc ≡ passed word
      → fetch_four lanes core memory steps pc ≡ decode_word core steps word 4
  unfolding fetch_four ◌>>=◌
  four_whole word h = rw h

  pub four_refused : (r : Refusal) → access_agreed lanes 1 memory 4 pc ≡ refused r
      → fetch_four lanes core memory steps pc ≡ refused r
  unfolding fetch_four ◌>>=◌
  four_refused r h = rw h

  -- four bytes read at once
  pub begins_whole : {v : ℕ} → Begins memory pc v → v % 4 ≡ 3 → fetch lanes core memory steps pc ≡ decode_word core steps v 4
  begins_whole {v} b e = fetch_whole (v % 65536) b.half (omega arith) ∙ four_whole v b.whole

  pub begins_half : {v : ℕ} → Begins memory pc v → (v % 4 ≡ 3 → ⊥) → fetch lanes core memory steps pc ≡ expand_halfword core steps (v % 65536)
  begins_half {v} b e = fetch_half (v % 65536) b.half (λ d. e (omega (arith, d)))

-- ---- a word's operation and a halfword's word, by the core in force

module _ (core : Core) (steps : ℕ) (f : InForce standing_core core steps) where
  pub decode_goes : (word n : ℕ) {o : Operation} → Some o ≡ decode_of word → decode_word core steps word n ≡ passed (record { operation = o; length = n; word = word })
  unfolding standing_core decode_word decoded_operation found refuse ◌>>=◌
  decode_goes word n e = rw (f.decodes word, sym e)

  pub decode_fails : (word n : ℕ) → None ≡ decode_of word → decode_word core steps word n ≡ refused (refusal_of Word)
  unfolding standing_core decode_word decoded_operation found refuse ◌>>=◌
  decode_fails word n e = rw (f.decodes word, sym e)

  pub expand_goes : (half : ℕ) {w : ℕ} → Some w ≡ expand half → expand_halfword core steps half ≡ decode_word core steps w 2
  unfolding standing_core expand_halfword expanded_word found refuse ◌>>=◌
  expand_goes half e = rw (f.expands half, sym e)

  pub expand_fails : (half : ℕ) → None ≡ expand half → expand_halfword core steps half ≡ refused (refusal_of Halfword)
  unfolding standing_core expand_halfword expanded_word found refuse ◌>>=◌
  expand_fails half e = rw (f.expands half, sym e)
