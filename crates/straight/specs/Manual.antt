-- The machine of the PowerPC 32-bit Programming Environments Manual, as far as demand 3 goes: thirty-two registers, and
-- what twelve kinds of words do to them, each as the manual writes it, bit by bit. Assumes nothing.
use Rattle.std.specs.Prelude.{ℕ, ◌+◌, ◌-◌, ◌%◌, ◌^◌, min, max, List, [], ◌∷◌, ◌≡◌, get_or, set, leb, ltb, eqb}
use Rattle.words.specs.Choice.{pick}
use Rattle.words.specs.Word.{bit, field}
use Rattle.words.specs.Bits.{number}

-- a word from its 32 bits, bit 0 the most significant
abbrev pub word : (ℕ → ℕ) → ℕ
word f = number f 32

-- EXTS(SIMM): bits 0 to 15 are copies of bit 16, the sign
unfoldable pub exts : ℕ → ℕ
exts w = word (λ (i : ℕ). bit w (max i 16))

-- SIMM || 0x0000
unfoldable pub shifted_simm : ℕ → ℕ
shifted_simm w = word (λ (i : ℕ). pick (ltb i 16) (bit w (i + 16)) 0)

-- 0x0000 || UIMM
unfoldable pub uimm : ℕ → ℕ
uimm w = word (λ (i : ℕ). pick (ltb i 16) 0 (bit w i))

-- +, of which 32 bits are kept
abbrev pub plus : ℕ → ℕ → ℕ
plus a b = (a + b) % 2 ^ 32

-- ¬
unfoldable pub not : ℕ → ℕ
not a = word (λ (i : ℕ). 1 - bit a i)

-- |
unfoldable pub or : ℕ → ℕ → ℕ
or a b = word (λ (i : ℕ). max (bit a i) (bit b i))

-- MASK(mb, me) has bit i: going round from mb, i is met no later than me
abbrev pub masked : ℕ → ℕ → ℕ → ℕ
masked mb me i = pick (leb ((i + 32 - mb) % 32) ((me + 32 - mb) % 32)) 1 0

-- ROTL(x, n) & MASK(mb, me)
unfoldable pub rotate_and_mask : ℕ → ℕ → ℕ → ℕ → ℕ
rotate_and_mask x n mb me = word (λ (i : ℕ). min (bit x ((i + n) % 32)) (masked mb me i))

-- the twelve kinds of words; OE, Rc and reserved bits do not matter for the registers
pub data Kind : Type 0 where
  add : Kind
  addi : Kind
  addic : Kind
  addic_dot : Kind
  addis : Kind
  subf : Kind
  subfc : Kind
  subfic : Kind
  ori : Kind
  orr : Kind
  rlwinm : Kind
  rlwnm : Kind

-- the fields of a word
abbrev pub rd_of : ℕ → ℕ
rd_of w = field w 6 10

abbrev pub rs_of : ℕ → ℕ
rs_of w = field w 6 10

abbrev pub ra_of : ℕ → ℕ
ra_of w = field w 11 15

abbrev pub rb_of : ℕ → ℕ
rb_of w = field w 16 20

-- the word is of that kind: its primary opcode and, under 31, its extended one (nine bits where the form has OE)
unfoldable pub Is : Kind → ℕ → Type 0
Is add w = (field w 0 5 ≡ 31) × (field w 22 30 ≡ 266)
Is addi w = field w 0 5 ≡ 14
Is addic w = field w 0 5 ≡ 12
Is addic_dot w = field w 0 5 ≡ 13
Is addis w = field w 0 5 ≡ 15
Is subf w = (field w 0 5 ≡ 31) × (field w 22 30 ≡ 40)
Is subfc w = (field w 0 5 ≡ 31) × (field w 22 30 ≡ 8)
Is subfic w = field w 0 5 ≡ 8
Is ori w = field w 0 5 ≡ 24
Is orr w = (field w 0 5 ≡ 31) × (field w 21 30 ≡ 444)
Is rlwinm w = field w 0 5 ≡ 21
Is rlwnm w = field w 0 5 ≡ 23

-- the register that the word writes
abbrev pub destination : Kind → ℕ → ℕ
destination add w = rd_of w
destination addi w = rd_of w
destination addic w = rd_of w
destination addic_dot w = rd_of w
destination addis w = rd_of w
destination subf w = rd_of w
destination subfc w = rd_of w
destination subfic w = rd_of w
destination ori w = ra_of w
destination orr w = ra_of w
destination rlwinm w = ra_of w
destination rlwnm w = ra_of w

-- the registers that it reads: addi and addis with rA 0 read none
abbrev pub unless_zero : ℕ → List ℕ
unless_zero a = pick (eqb a 0) [] (a ∷ [])

abbrev pub sources : Kind → ℕ → List ℕ
sources add w = ra_of w ∷ rb_of w ∷ []
sources addi w = unless_zero (ra_of w)
sources addic w = ra_of w ∷ []
sources addic_dot w = ra_of w ∷ []
sources addis w = unless_zero (ra_of w)
sources subf w = ra_of w ∷ rb_of w ∷ []
sources subfc w = ra_of w ∷ rb_of w ∷ []
sources subfic w = ra_of w ∷ []
sources ori w = rs_of w ∷ []
sources orr w = rs_of w ∷ rb_of w ∷ []
sources rlwinm w = rs_of w ∷ []
sources rlwnm w = rs_of w ∷ rb_of w ∷ []

-- a register's number
abbrev pub gpr : List ℕ → ℕ → ℕ
gpr m r = get_or m r 0

-- (rA|0)
abbrev pub or_zero : List ℕ → ℕ → ℕ
or_zero m a = pick (eqb a 0) 0 (gpr m a)

-- what the word puts there
abbrev pub result : Kind → ℕ → List ℕ → ℕ
result add w m = plus (gpr m (ra_of w)) (gpr m (rb_of w))
result addi w m = plus (or_zero m (ra_of w)) (exts w)
result addic w m = plus (gpr m (ra_of w)) (exts w)
result addic_dot w m = plus (gpr m (ra_of w)) (exts w)
result addis w m = plus (or_zero m (ra_of w)) (shifted_simm w)
result subf w m = plus (plus (not (gpr m (ra_of w))) (gpr m (rb_of w))) 1
result subfc w m = plus (plus (not (gpr m (ra_of w))) (gpr m (rb_of w))) 1
result subfic w m = plus (plus (not (gpr m (ra_of w))) (exts w)) 1
result ori w m = or (gpr m (rs_of w)) (uimm w)
result orr w m = or (gpr m (rs_of w)) (gpr m (rb_of w))
result rlwinm w m = rotate_and_mask (gpr m (rs_of w)) (field w 16 20) (field w 21 25) (field w 26 30)
result rlwnm w m = rotate_and_mask (gpr m (rs_of w)) (field (gpr m (rb_of w)) 27 31) (field w 21 25) (field w 26 30)

-- the registers after the word
abbrev pub executed : Kind → ℕ → List ℕ → List ℕ
executed k w m = set m (destination k w) (result k w m)
