-- Rows of marks, of which one changes.
use Rattle.std.proofs.Common.{◌≡◌, ℕ, ◌<◌, ◌≤◌, ◌+◌, List, [], ◌∷◌, ◌++◌, length, length-append, get_or, Bool, false, take, drop, ◌||◌, ◌&&◌, ap, ◌∙◌, arith, inl, inr}
use Rattle.std.specs.Prelude.{slice_set}
use Rattle.std.proofs.lemmas.Bool.{cases_eq, cases_lt, cases_order}
use Rattle.std.proofs.lemmas.List.{get_or-set_same, get_or-set_other, get_or_append_left, get_or_at, get_or_default, get_or_past, take_at}
use Rattle.wl_paint.specs.Damage.{IsDamage, is_between, marked}
use Rattle.wl_paint.proofs.Clips.{is_between-empty, is_between-here, is_between-other}

-- the row y gets its marks, after the rows from top up to y
pub marked-row : (was rows : List (List Bool)) (row : List Bool) (left right top y : ℕ) → y < length rows → top ≤ y
    → ((x k : ℕ) → marked (get_or rows k []) x ≡ (marked (get_or was k []) x || (is_between left right x && is_between top y k)))
    → ((x : ℕ) → marked row x ≡ (marked (get_or rows y []) x || is_between left right x))
    → (x k : ℕ) → marked (get_or (slice_set rows y row) k []) x ≡ (marked (get_or was k []) x || (is_between left right x && is_between top (y + 1) k))
marked-row was rows row left right top y within order before new x k =
    elim (cases_eq k y) [
      | inl e ↦ (
          let here : get_or (slice_set rows y row) y [] ≡ row = get_or-set_same rows y row [] within in
          let old : marked (get_or rows y []) x ≡ marked (get_or was y []) x = before x y ∙ is_between-empty _ _ top y in
          rw e (ap (λ (r : List Bool). marked r x) here ∙ (new x ∙ (ap (λ (b : Bool). b || is_between left right x) old ∙ is_between-here _ _ top y order))))
      | inr n ↦ (ap (λ (r : List Bool). marked r x) (get_or-set_other rows y k row [] n) ∙ (before x k ∙ is_between-other _ _ top y k n))
    ]

-- the rows keep their widths
pub width-row : (was rows : List (List Bool)) (row : List Bool) (y : ℕ) → y < length rows → length row ≡ length (get_or rows y [])
    → ((k : ℕ) → length (get_or rows k []) ≡ length (get_or was k []))
    → (k : ℕ) → length (get_or (slice_set rows y row) k []) ≡ length (get_or was k [])
width-row was rows row y within new before k =
    elim (cases_eq k y) [
      | inl e ↦ (rw e (ap length (get_or-set_same rows y row [] within) ∙ (new ∙ before y)))
      | inr n ↦ (ap length (get_or-set_other rows y k row [] n) ∙ before k)
    ]

-- one row more at the end, of the same width and without marks
pub rows-more : (rows next : List (List Bool)) (row : List Bool) (n width : ℕ) → next ≡ rows ++ row ∷ [] → length rows ≡ n
    → length row ≡ width → ((x : ℕ) → marked row x ≡ false)
    → ((y : ℕ) → y < n → length (get_or rows y []) ≡ width) → ((x y : ℕ) → marked (get_or rows y []) x ≡ false)
    → ((y : ℕ) → y < n + 1 → length (get_or next y []) ≡ width) × ((x y : ℕ) → marked (get_or next y []) x ≡ false)
rows-more rows next row n width is sized long clear wide empty =
    let front : (y : ℕ) → y < n → get_or next y [] ≡ get_or rows y [] =
    λ y h. ap (λ (t : List (List Bool)). get_or t y []) is ∙ get_or_append_left rows (row ∷ []) [] y (omega arith) in
    let last : get_or next n [] ≡ row = ap (λ (t : List (List Bool)). get_or t n []) is ∙ get_or_at rows row [] [] n sized in
    let all : length next ≡ n + 1 = ap length is ∙ (length-append rows (row ∷ []) ∙ omega arith) in (
      λ y h. elim (cases_lt y n) [
        | inl l ↦ (ap length (front y l) ∙ wide y l)
        | inr g ↦ (
            let e : y ≡ n = omega arith in
            rw e (ap length last ∙ long))
      ],
      λ x y. elim (cases_order y n) [
        | inl e ↦ (rw e (ap (λ (r : List Bool). marked r x) last ∙ clear x))
        | inr (inl l) ↦ (ap (λ (r : List Bool). marked r x) (front y l) ∙ empty x y)
        | inr (inr g) ↦ (ap (λ (r : List Bool). marked r x) (get_or_past next y [] (omega (arith, all))))
      ],
    )

-- after the last of the rows
pub marked-all : (was rows : List (List Bool)) (left right top y bottom : ℕ) → y ≡ bottom
    → ((x k : ℕ) → marked (get_or rows k []) x ≡ (marked (get_or was k []) x || (is_between left right x && is_between top y k)))
    → (x k : ℕ) → marked (get_or rows k []) x ≡ (marked (get_or was k []) x || (is_between left right x && is_between top bottom k))
marked-all was rows left right top y bottom e before = rw (← e) before

-- a row that was read is as wide as before
pub width-read : (was rows : List (List Bool)) (d : List Bool) (y : ℕ) → y < length rows → ((k : ℕ) → length (get_or rows k []) ≡ length (get_or was k []))
    → length (get_or rows y d) ≡ length (get_or was y [])
width-read was rows d y within widths = ap length (get_or_default rows y d [] within) ∙ widths y

-- one row more has no mark
pub cleared-row : (rows : List (List Bool)) (row : List Bool) (i : ℕ) → i < length rows → ((x : ℕ) → marked row x ≡ false)
    → ((x y : ℕ) → y < i → marked (get_or rows y []) x ≡ false) → (x y : ℕ) → y < i + 1 → marked (get_or (slice_set rows i row) y []) x ≡ false
cleared-row rows row i within clear before x y h =
    elim (cases_eq y i) [
      | inl e ↦ (rw e (ap (λ (r : List Bool). marked r x) (get_or-set_same rows i row [] within) ∙ clear x))
      | inr n ↦ (ap (λ (r : List Bool). marked r x) (get_or-set_other rows i y row [] n) ∙ before x y (omega arith))
    ]

-- none has, and past the last row there is none
pub cleared-all : (rows : List (List Bool)) (i : ℕ) → length rows ≤ i → ((x y : ℕ) → y < i → marked (get_or rows y []) x ≡ false)
    → (x y : ℕ) → marked (get_or rows y []) x ≡ false
cleared-all rows i all before x y =
    elim (cases_lt y i) [
      | inl l ↦ before x y l
      | inr g ↦ (ap (λ (r : List Bool). marked r x) (get_or_past rows y [] (omega arith)))
    ]

-- ---- the rows that are lent of an output's damage

pub rows-wide : (rows items : List (List Bool)) (width height right : ℕ) → rows ≡ items → IsDamage (record { width = width; height = height; rows = items }) → right ≤ width
    → (y : ℕ) → y < length rows → right ≤ length (get_or rows y [])
rows-wide rows items width height right e is le y h = rw (e, is.each_wide y (omega (arith, is.sized, ap length e))) le

pub rows-narrow : (rows items : List (List Bool)) (width height : ℕ) → rows ≡ items → IsDamage (record { width = width; height = height; rows = items })
    → (y : ℕ) → y < length rows → length (get_or rows y []) ≤ 4096
rows-narrow rows items width height e is y h = rw (e, is.each_wide y (omega (arith, is.sized, ap length e))) is.wide

-- put back, with the same widths
pub rows-kept : (rows items new : List (List Bool)) (width height len : ℕ) → rows ≡ items → IsDamage (record { width = width; height = height; rows = items }) → length rows ≡ len
    → length new ≡ length rows → ((y : ℕ) → length (get_or new y []) ≡ length (get_or rows y []))
    → IsDamage (record { width = width; height = height; rows = take len (new ++ drop (length new) items) })
rows-kept rows items new width height len e is long kept widths =
    rw (take_at new (drop (length new) items) len (kept ∙ long)) (record {
      wide = is.wide;
      high = is.high;
      sized = kept ∙ ap length e ∙ is.sized;
      each_wide = λ y h. widths y ∙ ap (λ (t : List (List Bool)). length (get_or t y [])) e ∙ is.each_wide y h;
    })

pub rows-empty : (items new : List (List Bool)) (len : ℕ) → length new ≡ len → ((x y : ℕ) → marked (get_or new y []) x ≡ false)
    → (x y : ℕ) → marked (get_or (take len (new ++ drop (length new) items)) y []) x ≡ false
rows-empty items new len long empty = rw (take_at new (drop (length new) items) len long) empty
