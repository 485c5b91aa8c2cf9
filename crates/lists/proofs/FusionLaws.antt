-- Laws of the lists of all processors: each iteration of a table stands in exactly one of them, once. For any shifts and peels, and any row of
-- block ends in which the middle blocks are no smaller than the threshold. Assumes nothing.
use Rattle.std.specs.Prelude.{◌≡◌, false, ◌↔◌, List, ℕ, zero, suc, ◌+◌, ◌*◌, ◌≤◌, ◌<◌, length}
use Rattle.std.proofs.Common.{sym, ⊎_elim, arith}
use mathlib.Core.List.{Memᴰ as Mem}
use Rattle.order.specs.Sequences.{Before, NoDup}
use Rattle.order.specs.Lists.{before-left, before-right}
use Rattle.order.specs.Rows.{Rows}
use Rattle.model.specs.declared.Iteration.{Iteration}
use Rattle.model.specs.Table.{Table, count, last, Inside}
use Rattle.blocks.specs.Sums.{largest, column}
use Rattle.blocks.specs.SumLaws.{largest-bound}
use Rattle.blocks.specs.Span.{table_span}
use Rattle.blocks.specs.Blocks.{is_short}
use Rattle.blocks.specs.PartLaws.{In}
use Rattle.blocks.proofs.PartLaws.{in-fused, in-peeled, not-short-gaps}
use Rattle.blocks.specs.Index.{Fused, Peeled, Gaps, gaps-less, in-part, fused-one, peeled-one}
use Rattle.blocks.specs.Index.{owner as owner_of, phase as phase_of}
use Rattle.lists.specs.Lists.{ranges, fused_columns, peeled_columns}
use Rattle.lists.proofs.Order.{less-key, by-sums-mem, by-sums-before, by-sums-same, by-loops-mem, by-loops-before, by-loops-same}
use Rattle.lists.specs.Fusion.{Fusion, own, fused_range, peeled_range, fused_list, peeled_list, phases, work}
use Rattle.lists.specs.Fusion.{fusion_of}
use Rattle.lists.specs.Wide.{Wide as WideOf}

module _ (t : Table) (c : Fusion) where
  open c use {shift, peel, processors, edge}

  abbrev Wide : Type 0
  Wide = WideOf t c

  -- so it is if they are no smaller than the threshold
  pub wide_by : (threshold : ℕ) → ((k : ℕ) → k < count t → shift k + peel k ≤ threshold) → Gaps processors edge threshold → Wide
  wide_by threshold h g = record { some = g.some; gaps = λ k l. gaps-less processors edge (shift k + peel k) threshold (h k l) g }

  -- the processor of an iteration, and its phase: 0 if it is fused, 1 if it is peeled
  abbrev pub owner : Iteration → ℕ
  owner x = owner_of processors edge (peel x.number) x.index

  abbrev pub phase : Iteration → ℕ
  phase x = phase_of processors edge (shift x.number) (peel x.number) x.index

  abbrev pub IsFused : Iteration → ℕ → Type 0
  IsFused x b = Fused processors edge (shift x.number) (peel x.number) x.index b

  abbrev pub IsPeeled : Iteration → ℕ → Type 0
  IsPeeled x b = Peeled processors edge (shift x.number) (peel x.number) x.index b

  -- THE MEMBERS of the lists are the iterations that the table has, by their parts
  pub fused-list : (b : ℕ) (x : Iteration) → b < processors → Mem x (fused_list t c b) ↔ (Inside t x × IsFused x b)
  fused-list b x l = (
    λ m.
        let w = (by-sums-mem (count t) (fused_range t c b) shift x).0 m in
        let (i, f) = part.0 w.inside in
        ((w.loop, i.0, omega arith), f),
    λ (i, f). (by-sums-mem (count t) (fused_range t c b) shift x).1 (record { loop = i.0; inside = part.1 ((i.1, omega arith), f) }),
  )
    where
      part : In x.index (fused_range t c b x.number) ↔ (In x.index (own t x.number) × IsFused x b)
      part = in-fused processors edge (own t x.number) (shift x.number) (peel x.number) x.index b l

  pub peeled-list : (b : ℕ) (x : Iteration) → b < processors → Mem x (peeled_list t c b) ↔ (Inside t x × IsPeeled x b)
  peeled-list b x l = (
    λ m.
        let w = (by-loops-mem (count t) (peeled_range t c b) x).0 m in
        let (i, f) = part.0 w.inside in
        ((w.loop, i.0, omega arith), f),
    λ (i, f). (by-loops-mem (count t) (peeled_range t c b) x).1 (record { loop = i.0; inside = part.1 ((i.1, omega arith), f) }),
  )
    where
      part : In x.index (peeled_range t c b x.number) ↔ (In x.index (own t x.number) × IsPeeled x b)
      part = in-peeled processors edge (own t x.number) (shift x.number) (peel x.number) x.index b l

  -- the lists that the code keeps in columns
  pub fused-columns : (froms pasts shifts : List ℕ) (b : ℕ) → length froms ≡ count t
      → ((k : ℕ) → k < count t → ranges froms pasts k ≡ fused_range t c b k) → ((k : ℕ) → k < count t → column shifts k ≡ shift k)
      → fused_columns froms pasts shifts ≡ fused_list t c b
  fused-columns froms pasts shifts b e f g = rw e (by-sums-same (count t) (fused_range t c b) shift (ranges froms pasts) (column shifts) f g)

  pub peeled-columns : (froms pasts : List ℕ) (b : ℕ) → length froms ≡ count t
      → ((k : ℕ) → k < count t → ranges froms pasts k ≡ peeled_range t c b k) → peeled_columns froms pasts ≡ peeled_list t c b
  peeled-columns froms pasts b e f = rw e (by-loops-same (count t) (peeled_range t c b) (ranges froms pasts) f)

  -- THE ORDER in a list, by one number: of the fused lists, and of the peeled ones
  abbrev pub past_all : ℕ
  past_all = largest (count t) (λ k. suc (last t k))

  abbrev pub rank : ℕ → Iteration → ℕ
  rank zero x = (x.index + shift x.number) * count t + x.number
  rank (suc n) x = x.number * past_all + x.index

  abbrev pub key : Iteration → ℕ
  key x = rank (phase x) x

  pub index_below : (x : Iteration) → Inside t x → x.index < past_all
  index_below x i = omega (arith, i.2, largest-bound (count t) x.number (λ k. suc (last t k)) i.0)

  module _ (wide : Wide) where
    open wide use {some, gaps}

    pub fused-known : (b : ℕ) (x : Iteration) → b < processors → Mem x (fused_list t c b) → (owner x ≡ b) × (phase x ≡ 0)
    fused-known b x l m =
        let (i, f) = (fused-list b x l).0 m in
        fused-one processors edge (shift x.number) (peel x.number) (gaps x.number i.0) x.index b f

    pub peeled-known : (b : ℕ) (x : Iteration) → b < processors → Mem x (peeled_list t c b) → (owner x ≡ b) × (phase x ≡ 1)
    peeled-known b x l m =
        let (i, f) = (peeled-list b x l).0 m in
        peeled-one processors edge (shift x.number) (peel x.number) (gaps x.number i.0) x.index b f

    pub fused-sorted : (b : ℕ) (x y : Iteration) → b < processors → Before x y (fused_list t c b) → key x < key y
    fused-sorted b x y l q =
        let (i, f) = (fused-list b x l).0 (before-left q) in
        rw ((fused-known b x l (before-left q)).1, (fused-known b y l (before-right q)).1)
        (less-key (count t) (x.index + shift x.number) x.number (y.index + shift y.number) y.number i.0
        (by-sums-before (count t) (fused_range t c b) shift x y q))

    pub peeled-sorted : (b : ℕ) (x y : Iteration) → b < processors → Before x y (peeled_list t c b) → key x < key y
    peeled-sorted b x y l q =
        let (i, f) = (peeled-list b x l).0 (before-left q) in
        rw ((peeled-known b x l (before-left q)).1, (peeled-known b y l (before-right q)).1)
        (less-key past_all x.number x.index y.number y.index (index_below x i)
        (by-loops-before (count t) (peeled_range t c b) x y q))

    pub work-known : (n b : ℕ) (x : Iteration) → n < phases t c → b < processors → Mem x (work t c n b) → (owner x ≡ b) × (phase x ≡ n)
    work-known zero b x l i m = fused-known b x i m
    work-known (suc n) b x l i m = let (e, q) = peeled-known b x i m in (e, omega arith)

    pub work-sorted : (n b : ℕ) (x y : Iteration) → n < phases t c → b < processors → Before x y (work t c n b) → key x < key y
    work-sorted zero b x y l i q = fused-sorted b x y i q
    work-sorted (suc n) b x y l i q = peeled-sorted b x y i q

    -- what the crate order asks of a plan: the fused lists, and then the peeled ones
    abbrev pub rows : Rows Iteration
    rows = record {
      size = processors;
      phases = phases t c;
      work = work t c;
      owner = owner;
      phase = phase;
      key = key;
      known = work-known;
      sorted = work-sorted;
    }

    -- EVERY ITERATION ONCE: each iteration of the table stands in one list of one processor, there once, and nothing else does
    pub record Once : Type 0 where
      pub listed : (x : Iteration) → Inside t x → (owner x < processors) × (phase x < phases t c) × Mem x (work t c (phase x) (owner x))
      pub alone : (n b : ℕ) (x : Iteration) → n < phases t c → b < processors → Mem x (work t c n b) → Inside t x × (b ≡ owner x) × (n ≡ phase x)
      pub single : (n b : ℕ) → n < phases t c → b < processors → NoDup (work t c n b)

    pub once : Once
    once = record { listed = listed; alone = alone; single = λ n b l i x h. omega (arith, work-sorted n b x x l i h) }
      where
        listed : (x : Iteration) → Inside t x → (owner x < processors) × (phase x < phases t c) × Mem x (work t c (phase x) (owner x))
        listed x i =
            ⊎_elim
            (λ (e, f). (f.block, omega arith, rw e ((fused-list (owner x) x f.block).1 (i, f))))
            (λ (e, f). let l = f.block in (omega arith, omega arith, rw e ((peeled-list (owner x) x (omega arith)).1 (i, f))))
            (in-part processors edge (shift x.number) (peel x.number) x.index some)

        inside : (n b : ℕ) (x : Iteration) → b < processors → Mem x (work t c n b) → Inside t x
        inside zero b x l m = ((fused-list b x l).0 m).0
        inside (suc n) b x l m = ((peeled-list b x l).0 m).0

        alone : (n b : ℕ) (x : Iteration) → n < phases t c → b < processors → Mem x (work t c n b) → Inside t x × (b ≡ owner x) × (n ≡ phase x)
        alone n b x l i m = let (e, f) = work-known n b x l i m in (inside n b x i m, sym e, sym f)

-- where there is a processor and ground 11 is not given, they are wide enough
pub fusion-wide : (t : Table) (P W : ℕ) (s p : ℕ → ℕ) (threshold : ℕ) → ((k : ℕ) → k < count t → s k + p k ≤ threshold) → 0 < P
    → is_short (table_span t).count W P threshold ≡ false → Wide t (fusion_of t P W s p)
fusion-wide t P W s p threshold h pos e =
    wide_by t (fusion_of t P W s p) threshold h (not-short-gaps (table_span t).first (table_span t).count W P threshold pos e)
