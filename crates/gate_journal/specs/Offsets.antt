-- Where the gates and the records of a journal half stand on the disk, in bytes from its start. A block has 4,096 bytes.
use Rattle.std.specs.Prelude.{ℕ, ◌+◌, ◌*◌}

-- the 4,096 gate bytes of a half: block 2 for half 0, block 3 for half 1
abbrev pub gates_start : ℕ → ℕ
gates_start half = 4096 * (2 + half)

-- the gate of the batch with this number from 0: 8,193 for batch 1 of half 0
abbrev pub gate_offset : ℕ → ℕ → ℕ
gate_offset half batch = gates_start half + batch

-- the record area of a half: from block 4 for half 0, and from block 132 for half 1
abbrev pub records_start : ℕ → ℕ
records_start half = 4096 * (4 + 128 * half)

-- how long a record area is: 128 blocks
abbrev pub records_size : ℕ
records_size = 524288

-- the end of both halves, where the volume begins: block 260
abbrev pub halves_end : ℕ
halves_end = 4096 * 260
