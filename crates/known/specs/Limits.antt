-- Each limit of a table exactly, and one past it: how many there can be, and the fields' ranges. (P, and fewer lines than P: Calls; W: Lines.)
use Rattle.std.specs.Prelude.{◌≡◌, refl, ◌++◌}
use Rattle.refusals.specs.Refusals.{none, met}
use Rattle.known.specs.Records.{array, ahead, behind, loop, read, one, operation, add, end, times}
use Rattle.known.specs.Bytes.{begun, loops, table_of}
use Rattle.known.specs.Computed.{refusal}

pub record Counts : Type 0 where
  -- at most 262,144 elements in all
  pub elements-most : refusal (times 3 (array 65536) ++ table_of 65536 1) ≡ none
  pub elements-past : refusal (times 4 (array 65536) ++ array 1) ≡ met 4 20
  pub elements-past-last : refusal (times 3 (array 65536) ++ array 65535 ++ array 2) ≡ met 4 20
  -- 1 to 16 arrays
  pub arrays-most : refusal (times 15 (array 1) ++ table_of 1 1) ≡ none
  pub arrays-past : refusal (times 17 (array 1)) ≡ met 4 80
  -- 1 to 16 loops
  pub loops-most : refusal (table_of 1 16) ≡ none
  pub loops-past : refusal (loops 1 17) ≡ met 4 277
  -- at most 32 items a body, here 1 and 31 times its negative; and in each of two bodies
  pub items-most : refusal (begun ++ one ++ times 31 (operation 5) ++ end) ≡ none
  pub items-each : refusal (array 1 ++ times 2 (loop 0 0 0 (ahead 0) ++ one ++ times 31 (operation 5)) ++ end) ≡ none
  pub items-past : refusal (begun ++ one ++ times 32 (operation 5) ++ end) ≡ met 4 84
  pub items-past-constant : refusal (begun ++ one ++ times 31 (operation 5) ++ one) ≡ met 4 84
  -- a 32nd item that is a read or a constant is not one too many; two numbers are left then, which the end meets with 6
  pub items-most-constant : refusal (begun ++ one ++ times 30 (operation 5) ++ one ++ end) ≡ met 6 87
  pub items-most-read : refusal (begun ++ one ++ times 30 (operation 5) ++ read 0 (ahead 0) ++ end) ≡ met 6 86
  -- at most eight values wait
  pub waiting-most : refusal (begun ++ times 8 one ++ times 7 add ++ end) ≡ none
  pub waiting-most-read : refusal (begun ++ times 7 one ++ read 0 (ahead 0) ++ times 7 add ++ end) ≡ none
  pub waiting-past : refusal (begun ++ times 9 one ++ times 8 add ++ end) ≡ met 6 57

pub counts : Counts
unfolding refusal
counts = record {
  elements-most = refl;
  elements-past = refl;
  elements-past-last = refl;
  arrays-most = refl;
  arrays-past = refl;
  loops-most = refl;
  loops-past = refl;
  items-most = refl;
  items-each = refl;
  items-past = refl;
  items-past-constant = refl;
  items-most-constant = refl;
  items-most-read = refl;
  waiting-most = refl;
  waiting-most-read = refl;
  waiting-past = refl;
}

pub record Fields : Type 0 where
  -- an array has 1 to 65,536 elements
  pub one-element : refusal (table_of 1 1) ≡ none
  pub no-element : refusal (array 0) ≡ met 3 0
  pub array-most : refusal (table_of 65536 1) ≡ none
  pub array-past : refusal (array 65537) ≡ met 3 0
  -- first is at most last
  pub first-most : refusal (array 9 ++ loop 8 8 0 (ahead 0) ++ one ++ end) ≡ none
  pub first_past : refusal (array 9 ++ loop 8 7 0 (ahead 0)) ≡ met 3 5
  -- last is at most 131,071. No array reaches so far, so what is met there is 7
  pub last-most : refusal (array 1 ++ loop 0 131071 0 (ahead 0)) ≡ met 7 5
  pub last-past : refusal (array 1 ++ loop 0 131072 0 (ahead 0)) ≡ met 3 5
  -- the farthest iteration that an array reaches: element 65,535 at the offset −255
  pub farthest : refusal (array 65536 ++ loop 255 65790 0 (behind 255) ++ one ++ end) ≡ none
  pub farther : refusal (array 65536 ++ loop 255 65791 0 (behind 255)) ≡ met 7 5
  -- offsets −255 to 255, of a destination and of a read
  pub ahead-most : refusal (array 256 ++ loop 0 0 0 (ahead 255) ++ one ++ end) ≡ none
  pub ahead_past : refusal (array 257 ++ loop 0 0 0 (ahead 256)) ≡ met 3 5
  pub behind-most : refusal (array 256 ++ loop 255 255 0 (behind 255) ++ one ++ end) ≡ none
  pub behind-past : refusal (array 257 ++ loop 256 256 0 (behind 256)) ≡ met 3 5
  pub read-ahead-most : refusal (array 256 ++ array 256 ++ loop 0 0 0 (ahead 0) ++ read 1 (ahead 255) ++ end) ≡ none
  pub read-ahead-past : refusal (array 257 ++ array 257 ++ loop 0 0 0 (ahead 0) ++ read 1 (ahead 256)) ≡ met 3 22
  pub read-behind-most : refusal (array 256 ++ array 256 ++ loop 255 255 0 (ahead 0) ++ read 1 (behind 255) ++ end) ≡ none
  pub read-behind-past : refusal (array 257 ++ array 257 ++ loop 256 256 0 (ahead 0) ++ read 1 (behind 256)) ≡ met 3 22
  -- operations 1 to 5
  pub operation-least : refusal (begun ++ one ++ one ++ operation 1 ++ end) ≡ none
  pub operation-below : refusal (begun ++ one ++ one ++ operation 0) ≡ met 3 27
  pub operation-most : refusal (begun ++ one ++ operation 5 ++ end) ≡ none
  pub operation-past : refusal (begun ++ one ++ one ++ operation 6) ≡ met 3 27

pub fields : Fields
unfolding refusal
fields = record {
  one-element = refl;
  no-element = refl;
  array-most = refl;
  array-past = refl;
  first-most = refl;
  first_past = refl;
  last-most = refl;
  last-past = refl;
  farthest = refl;
  farther = refl;
  ahead-most = refl;
  ahead_past = refl;
  behind-most = refl;
  behind-past = refl;
  read-ahead-most = refl;
  read-ahead-past = refl;
  read-behind-most = refl;
  read-behind-past = refl;
  operation-least = refl;
  operation-below = refl;
  operation-most = refl;
  operation-past = refl;
}
