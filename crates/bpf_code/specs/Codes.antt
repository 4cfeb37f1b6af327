-- The parts of the codes of instructions, by their names in <linux/bpf_common.h>. A code has a class. A class has a size and a mode, an
-- operation and an operand, a test and an operand, or a source that is returned or moved.
use Rattle.std.specs.Prelude.{ℕ}

-- classes
abbrev pub ld : ℕ
ld = 0x00

abbrev pub ldx : ℕ
ldx = 0x01

abbrev pub st : ℕ
st = 0x02

abbrev pub stx : ℕ
stx = 0x03

abbrev pub alu : ℕ
alu = 0x04

abbrev pub jmp : ℕ
jmp = 0x05

abbrev pub ret : ℕ
ret = 0x06

abbrev pub misc : ℕ
misc = 0x07

-- the size of a load: a word of 32 bits
abbrev pub w : ℕ
w = 0x00

-- modes of loads: a number, an offset in the data, a scratch word, the length of the data
abbrev pub imm : ℕ
imm = 0x00

abbrev pub abs : ℕ
abs = 0x20

abbrev pub mem : ℕ
mem = 0x60

abbrev pub len : ℕ
len = 0x80

-- operations
abbrev pub add : ℕ
add = 0x00

abbrev pub sub : ℕ
sub = 0x10

abbrev pub mul : ℕ
mul = 0x20

abbrev pub div : ℕ
div = 0x30

abbrev pub or : ℕ
or = 0x40

abbrev pub and : ℕ
and = 0x50

abbrev pub lsh : ℕ
lsh = 0x60

abbrev pub rsh : ℕ
rsh = 0x70

abbrev pub neg : ℕ
neg = 0x80

abbrev pub xor : ℕ
xor = 0xa0

-- jumps: always, and by a test
abbrev pub ja : ℕ
ja = 0x00

abbrev pub jeq : ℕ
jeq = 0x10

abbrev pub jgt : ℕ
jgt = 0x20

abbrev pub jge : ℕ
jge = 0x30

abbrev pub jset : ℕ
jset = 0x40

-- operands: the instruction's number, X, and for a return also A
abbrev pub k : ℕ
k = 0x00

abbrev pub x : ℕ
x = 0x08

abbrev pub a : ℕ
a = 0x10

-- moves between the registers
abbrev pub tax : ℕ
tax = 0x00

abbrev pub txa : ℕ
txa = 0x80
