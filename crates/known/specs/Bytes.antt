-- Small tables in bytes.
use Rattle.std.specs.Prelude.{ℕ, List, ◌++◌}
use Rattle.known.specs.Records.{array, ahead, behind, back, loop, store, read, constant, one, operation, add, end, times}

-- the start of a table: an array of 1, and a loop from 0 to 0 that stores at A0[i]; its body is yet to come
abbrev pub begun : List ℕ
begun = array 1 ++ loop 0 0 0 (ahead 0)

-- n loops that store in an array of so many elements, each from 0 to 0: A0[i] = 1; without and with the end
abbrev pub loops : ℕ → ℕ → List ℕ
loops elements n = array elements ++ times n (loop 0 0 0 (ahead 0) ++ one)

abbrev pub table_of : ℕ → ℕ → List ℕ
table_of elements n = loops elements n ++ end

-- A[i−1] + A[i+1]
abbrev pub beside : ℕ → List ℕ
beside a = read a back ++ read a (ahead 1) ++ add

-- the example: A0[i] = A1[i] + 1; A2[i] = A0[i−1] + A0[i+1]
abbrev pub example : List ℕ
example =
    array 12 ++ array 12 ++ array 12
    ++ store 0 ++ read 1 (ahead 0) ++ one ++ add
    ++ store 2 ++ beside 0
    ++ end

-- three loops, each reading the last one's array at −1 and +1
abbrev pub three : List ℕ
three = array 12 ++ array 12 ++ array 12 ++ store 0 ++ one ++ store 1 ++ beside 0 ++ store 2 ++ beside 1 ++ end

-- distances −1 then 0: A0[i] = 1; A1[i] = A0[i+1]; A2[i] = A1[i]
abbrev pub minus_one_then_zero : List ℕ
minus_one_then_zero =
    array 12 ++ array 12 ++ array 12 ++ store 0 ++ one ++ store 1 ++ read 0 (ahead 1) ++ store 2 ++ read 1 (ahead 0) ++ end

-- loop 0 reads A1[i+2], loop 1 stores A1[i]
abbrev pub store_after_read : List ℕ
store_after_read = array 11 ++ array 13 ++ store 0 ++ read 1 (ahead 2) ++ store 1 ++ one ++ end

-- a loop from f to l stores A0[i], one from f' to l' reads A0 at an offset: the distance is the offset with the other sign
abbrev pub stored_then_read : (f l f' l' : ℕ) → List ℕ → List ℕ
stored_then_read f l f' l' offset = times 2 (array 15) ++ loop f l 0 (ahead 0) ++ one ++ loop f' l' 1 (ahead 0) ++ read 0 offset ++ end

-- A0 of 21 elements: A0[i] = A0[i+o]
abbrev pub itself : ℕ → List ℕ
itself o = array 21 ++ store 0 ++ read 0 (ahead o) ++ end

-- loop 1 reads, beside A1[i], its own array at the same element, out of its reach, 9 ahead and 1 back:
-- A1[i] = 1; A0[i] = A1[i] + A0[i] + A0[i+10] + A0[i+9] + A0[i−1]
abbrev pub several_reads : List ℕ
several_reads =
    array 21 ++ array 21 ++ store 1 ++ one
    ++ store 0 ++ read 1 (ahead 0) ++ read 0 (ahead 0) ++ add ++ read 0 (ahead 10) ++ add ++ read 0 (ahead 9) ++ add ++ read 0 back ++ add
    ++ end

-- one loop: T = 10, threshold 0
abbrev pub single : List ℕ
single = array 11 ++ store 0 ++ one ++ end

-- an array of 1; loop 0, 0 to 0: A0[i] = 0 / 0
abbrev pub zero_by_zero : List ℕ
zero_by_zero = begun ++ constant 0 ++ constant 0 ++ operation 4 ++ end

-- the largest shift and the largest peel in different loops, 2 to 11: A0[i] = 1; A1[i] = A0[i+s]; A2[i] = A0[i−p], for s up to 3 and p up to 2
abbrev pub apart : ℕ → ℕ → List ℕ
apart s p =
    times 3 (array 15)
    ++ loop 2 11 0 (ahead 0) ++ one
    ++ loop 2 11 1 (ahead 0) ++ read 0 (ahead s)
    ++ loop 2 11 2 (ahead 0) ++ read 0 (behind p)
    ++ end

-- two indices and the threshold 2: A0[i] = 1; A1[i] = A0[i−1] + A0[i+1]
abbrev pub steep : List ℕ
steep = times 2 (array 9) ++ loop 2 3 0 (ahead 0) ++ one ++ loop 2 3 1 (ahead 0) ++ beside 0 ++ end

-- a river reach of 200 sections, stage A0, flow A1, slope A2, smoothed flow A3: examples/river.table
abbrev pub river : List ℕ
river =
    times 4 (array 200)
    ++ loop 1 198 2 (ahead 0) ++ read 0 back ++ read 0 (ahead 1) ++ operation 2 ++ constant 200 ++ operation 4
    ++ loop 1 198 1 (ahead 0) ++ read 1 (ahead 0) ++ constant 9 ++ operation 3 ++ constant 10 ++ operation 4
    ++ read 2 (ahead 0) ++ constant 40 ++ operation 3 ++ add
    ++ loop 1 198 3 (ahead 0) ++ read 1 back ++ constant 2 ++ read 1 (ahead 0) ++ operation 3 ++ add ++ read 1 (ahead 1) ++ add ++ constant 4 ++ operation 4
    ++ loop 1 198 0 (ahead 0) ++ read 0 (ahead 0) ++ read 3 back ++ read 3 (ahead 1) ++ operation 2 ++ constant 50 ++ operation 4 ++ add
    ++ end

-- two tables over two arrays, A0[i] = 1 and A1[i] = A0[i+1], and the one that they make
abbrev pub storer : List ℕ
storer = times 2 (array 12) ++ store 0 ++ one ++ end

abbrev pub reader : List ℕ
reader = times 2 (array 12) ++ store 1 ++ read 0 (ahead 1) ++ end

abbrev pub joined_bytes : List ℕ
joined_bytes = times 2 (array 12) ++ store 0 ++ one ++ store 1 ++ read 0 (ahead 1) ++ end

-- two stores in one array: A0[i] = 1; A0[i+o] = 1. Two reads of one: A0[i] = A2[i+1]; A1[i] = A2[i+o]
abbrev pub stores : List ℕ → List ℕ
stores o = array 12 ++ store 0 ++ one ++ loop 1 10 0 o ++ one ++ end

abbrev pub reads : List ℕ → List ℕ
reads o = times 3 (array 13) ++ store 0 ++ read 2 (ahead 1) ++ store 1 ++ read 2 o ++ end

-- loops with bounds of their own, 1 to 10 and 6 to 12: A0[i] = 1; A1[i] = A0[i−1] + A0[i+1]
abbrev pub staggered : List ℕ
staggered = times 2 (array 14) ++ loop 1 10 0 (ahead 0) ++ one ++ loop 6 12 1 (ahead 0) ++ beside 0 ++ end
