-- The limits of files and transactions, and what a file takes on the disk.
use Rattle.std.specs.Prelude.{ℕ, ◌+◌, ◌*◌, ◌/◌, cond, nat_lt}

-- the greatest length of a file, in bytes: 1,048 pages
abbrev pub file_max : ℕ
file_max = 4292608

-- the weight that the unsealed updates of a stream have together at most, in bytes: 256 KiB
abbrev pub transaction_limit : ℕ
transaction_limit = 262144

-- the pages of 4,096 bytes that so many bytes take: 2 for 4,097
abbrev pub pages : ℕ → ℕ
pages len = (len + 4095) / 4096

-- so many bytes rounded up to a page: 8,192 for 4,097
abbrev pub rounded : ℕ → ℕ
rounded len = pages len * 4096

-- the blocks of a file of that length, a block being as large as a page: one for each page, and one more for the pointers where
-- there are more than 24 pages. 98,304 bytes take 24, and one byte more 26
abbrev pub blocks : ℕ → ℕ
blocks len = pages len + cond (nat_lt 24 (pages len)) 1 0
