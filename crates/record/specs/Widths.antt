-- The width of each field of a delta record, in bits, and the limits of what is written and read.
use Rattle.std.specs.Prelude.{ℕ, ◌-◌, ◌^◌}

abbrev pub variant_bits : ℕ
variant_bits = 4

abbrev pub order_bits : ℕ
order_bits = 3

abbrev pub flag_bits : ℕ
flag_bits = 1

abbrev pub window_bits : ℕ
window_bits = 5

abbrev pub state_bits : ℕ
state_bits = 4

abbrev pub shift_bits : ℕ
shift_bits = 5

abbrev pub bias_bits : ℕ
bias_bits = 64

abbrev pub count_bits : ℕ
count_bits = 5

abbrev pub weight_bits : ℕ
weight_bits = 32

-- the greatest number that a field of so many bits holds
abbrev pub greatest : ℕ → ℕ
greatest width = 2 ^ width - 1

abbrev pub greatest_shift : ℕ
greatest_shift = greatest shift_bits

-- the log of the greatest number of entries of a chunk: no larger window could be used
abbrev pub greatest_window_log : ℕ
greatest_window_log = 24
