-- What is told of surfaces by their numbers is told of them by their ids.
use Rattle.std.proofs.Common.{◌≡◌, ℕ, zero, suc, ◌⊎◌, inl, inr, ◌==◌, ◌&&◌, ◌||◌, Bool, true, false, cond, not, Option, Some, None, List, [], ◌∷◌}
use Rattle.std.proofs.Common.{map, refl, ap, ap₂, sym, subst, ◌∙◌, eq-eqb, eqb-true}
use Rattle.std.specs.Prelude.{find}
use Rattle.std.specs.List.{AllByRecursion as Each}
use Rattle.std.specs.Option.{option_map}
use Rattle.std.proofs.lemmas.Bool.{or_cases}
use Rattle.std.proofs.lemmas.List.Elements.{All-from_recursion, recursion_from_All}
use Rattle.wl_surface.specs.declared.role.Role.TheVariants.{Subsurface}
use Rattle.wl_surface.specs.Request.{Commit}
use Rattle.wl_surface.specs.Surface.{Surface, asking}
use Rattle.wl_surface.specs.declared.applied.Change.{Change}
use Rattle.wl_surface.specs.Applied.{AreApplied, AreGoneIf, is_shown_at}
use Rattle.wl_surface.specs.Slots.{Numbered}
use Rattle.wl_surface.specs.Surfaces.{Link, Surfaces, surface_at, with_change, without_surface}
use Rattle.wl_surface.specs.Trees.{behaves_synchronised, descends_from, ending, in_mode, levels, link_of, of_parent, with_link}
use Rattle.wl_surface.specs.TreeLaws.{is_live_of}
use Rattle.wl_surface.specs.Linked.{numbered}
use Rattle.wl_surface.specs.Tree.{AreOnce, AreTold, IsTold, IsToldUnless, is_among}
use Rattle.wl_surface.proofs.Destroying.{numbered-left}
use Rattle.wl_surface.proofs.Standing.{there-changed}
use Rattle.law_desktop.specs.Renaming.{HasEnds, IsRenaming, has_surface, renamed, renamed_link, renamed_surface}
use Rattle.law_desktop.proofs.ByNames.Names.Changing.{with-link-known, with-link-renamed}
use Rattle.law_desktop.proofs.ByNames.Names.Done.{changes-surface, heed-no-names}
use Rattle.law_desktop.proofs.ByNames.Names.Known.{keeps-descent, keeps-places, known-there, reads-surfaces}
use Rattle.law_desktop.proofs.ByNames.Names.Lists.{each-weaker}
use Rattle.law_desktop.proofs.ByNames.Names.Reading.{lives-of, same-name}
use Rattle.law_desktop.specs.Telling.{AreToldBy, IsToldBy, IsToldUnlessBy, TellsCommit, TellsDesync, TellsEnd, TellsUnlink}
use Rattle.law_desktop.proofs.ByNames.Linking.{ends-there}
use Rattle.law_desktop.proofs.ByNames.Reading.{read-by}

module _ (names : ℕ → ℕ) (all : Surfaces) (is : IsRenaming names all) where
  -- a number that is that of a surface which is there
  abbrev IsNamed : ℕ → Type 0
  IsNamed number = (id : ℕ) × (has_surface id all ≡ true) × (names id ≡ number)

  -- ---- who descends is there

  child-named : (m : ℕ) (found : Link) (ls : List Link) → Each (HasEnds all) ls → find (is_live_of m) (map (renamed_link names) ls) ≡ Some found → IsNamed m
  child-named m found [] each e = absurd (cc)
  child-named m found (l ∷ ls) each e = at (is_live_of m (renamed_link names l)) refl e (child-named m found ls each.1)
    where
      same : (ended b : Bool) → (not ended && b) ≡ true → b ≡ true
      same true b e = absurd (cc)
      same false b e = e

      at : (b : Bool) → is_live_of m (renamed_link names l) ≡ b → cond b (Some (renamed_link names l)) (find (is_live_of m) (map (renamed_link names) ls)) ≡ Some found
          → (find (is_live_of m) (map (renamed_link names) ls) ≡ Some found → IsNamed m) → IsNamed m
      at true f e later = (l.child, (each.0 (lives-of l.has_ended (names l.child == m) f)).0, eqb-true (names l.child) m (same l.has_ended (names l.child == m) f))
      at false f e later = later e

  under-named : (n top m : ℕ) → has_surface top all ≡ true → descends_from n (renamed names all) (names top) m ≡ true → IsNamed m
  unfolding descends_from
  under-named zero top m there e = (top, there, sym (eqb-true m (names top) e))
  under-named (suc n) top m there e = either (or_cases (m == names top) (of_parent false (λ parent. descends_from n (renamed names all) (names top) parent) (link_of m (renamed names all))) e)
    where
      at : (o : Option Link) → link_of m (renamed names all) ≡ o → of_parent false (λ parent. descends_from n (renamed names all) (names top) parent) o ≡ true → IsNamed m
      at None f e = absurd (cc)
      at (Some l) f e = child-named m l all.links (recursion_from_All (HasEnds all) all.links is.ends) f

      either : ((m == names top) ≡ true) ⊎ (of_parent false (λ parent. descends_from n (renamed names all) (names top) parent) (link_of m (renamed names all)) ≡ true) → IsNamed m
      either (inl same) = (top, there, sym (eqb-true m (names top) same))
      either (inr below) = at (link_of m (renamed names all)) refl below

  -- ---- numbers, and the ids that they are of

  record AreIds (numbers : List ℕ) : Type 0 where
    ids : List ℕ
    there : Each (λ id. has_surface id all ≡ true) ids
    named : map names ids ≡ numbers

  ids-of : (numbers : List ℕ) → Each IsNamed numbers → AreIds numbers
  ids-of [] each = record { ids = []; there = tt; named = refl }
  ids-of (n ∷ ns) each =
      let rest = ids-of ns each.1 in
      record { ids = each.0.0 ∷ rest.ids; there = (each.0.1, rest.there); named = ap₂ (λ (m : ℕ) (ms : List ℕ). m ∷ ms) each.0.2 rest.named }

  among-ids : (ids : List ℕ) → Each (λ id. has_surface id all ≡ true) ids → (id : ℕ) → is_among ids id ≡ (has_surface id all && is_among (map names ids) (names id))
  among-ids [] each id = none (has_surface id all)
    where
      none : (b : Bool) → false ≡ (b && false)
      none true = refl
      none false = refl
  among-ids (a ∷ ids) each id = at (has_surface id all) refl (among-ids ids each.1 id)
    where
      apart : (b : Bool) → (a == id) ≡ b → has_surface id all ≡ false → b ≡ false
      apart true e none = absurd (let both = sym each.0 ∙ (ap (λ n. has_surface n all) (eqb-true a id e) ∙ none) in cc)
      apart false e none = refl

      at : (b : Bool) → has_surface id all ≡ b → is_among ids id ≡ (has_surface id all && is_among (map names ids) (names id))
          → (a == id || is_among ids id) ≡ (b && (names a == names id || is_among (map names ids) (names id)))
      at true e next = ap₂ (λ (a b : Bool). a || b) (sym (same-name (known-there names all is) a id each.0 e)) (next ∙ ap (λ b. b && is_among (map names ids) (names id)) e)
      at false e next = ap₂ (λ (a b : Bool). a || b) (apart (a == id) refl e) (next ∙ ap (λ b. b && is_among (map names ids) (names id)) e)

  once-ids : (ids : List ℕ) → Each (λ id. has_surface id all ≡ true) ids → AreOnce (map names ids) → AreOnce ids
  once-ids [] each once = tt
  once-ids (a ∷ ids) each once = (among-ids ids each.1 a ∙ (ap (λ b. has_surface a all && b) once.0 ∙ none (has_surface a all)), once-ids ids each.1 once.1)
    where
      none : (b : Bool) → (b && false) ≡ false
      none true = refl
      none false = refl

  -- ---- what is told of each

  applied-by : {A : Type 0} (number : ℕ) (o : Option Surface) (one : Option (Change A)) → AreApplied number (option_map (renamed_surface names) o) one → AreApplied number o one
  applied-by number None one told = told
  applied-by number (Some s) one told = told

  told-ids : {A : Type 0} (those : Numbered) (left : Surfaces) → ((id : ℕ) → has_surface id all ≡ true → those (names id) ≡ option_map (renamed_surface names) (surface_at id left))
      → (ids : List ℕ) → Each (λ id. has_surface id all ≡ true) ids → (changes : List (Change A)) → AreTold (map names ids) those changes → AreToldBy names ids left changes
  told-ids those left reads [] each changes told = told
  told-ids {A} those left reads (id ∷ ids) each changes told = (
    told.0,
    told.1,
    applied-by (names id) (surface_at id left) told.0 (subst (λ (o : Option Surface). AreApplied (names id) o told.0) (reads id each.0) told.2),
    told-ids those left reads ids each.1 told.1 told.3,
    told.4,
  )

  -- the numbers of those that descend are those of ids
  named-below : (top : ℕ) (numbers : List ℕ) → has_surface top all ≡ true → ((number : ℕ) → is_among numbers number ≡ descends_from 16 (renamed names all) (names top) number)
      → AreIds numbers
  named-below top numbers there those =
      ids-of numbers
      (each-weaker (λ n. is_among numbers n ≡ true) IsNamed (λ n among. under-named 16 top n there (sym (those n) ∙ among)) numbers (all-among numbers))
    where
      or-later : (a b : Bool) → b ≡ true → (a || b) ≡ true
      or-later true b e = refl
      or-later false b e = e

      all-among : (ns : List ℕ) → Each (λ n. is_among ns n ≡ true) ns
      all-among [] = tt
      all-among (n ∷ ns) = (
        ap (λ b. b || is_among ns n) (eq-eqb n n refl),
        each-weaker (λ m. is_among ns m ≡ true) (λ m. is_among (n ∷ ns) m ≡ true) (λ m among. or-later (n == m) (is_among ns m) among) ns (all-among ns),
      )

  those-ids : (top : ℕ) (numbers : List ℕ) → has_surface top all ≡ true → ((number : ℕ) → is_among numbers number ≡ descends_from 16 (renamed names all) (names top) number)
      → (ids : List ℕ) → Each (λ id. has_surface id all ≡ true) ids → map names ids ≡ numbers → (id : ℕ)
      → is_among ids id ≡ (has_surface id all && descends_from 16 all top id)
  those-ids top numbers there those ids each named id =
      among-ids ids each id ∙ (ap (λ ns. has_surface id all && is_among ns (names id)) named ∙ (ap (λ b. has_surface id all && b) (those (names id)) ∙ at (has_surface id all) refl))
    where
      at : (b : Bool) → has_surface id all ≡ b → (b && descends_from 16 (renamed names all) (names top) (names id)) ≡ (b && descends_from 16 all top id)
      at true e = keeps-descent names all is 16 top id there e
      at false e = refl

  pub told-by : {A : Type 0} (top : ℕ) (changes : List (Change A)) → has_surface top all ≡ true → IsTold (names top) (renamed names all) changes → IsToldBy names top all changes
  told-by top changes there told =
      let of = named-below top told.numbers there told.those in
      record {
        ids = of.ids;
        once = once-ids of.ids of.there (subst AreOnce (sym of.named) told.once);
        those = those-ids top told.numbers there told.those of.ids of.there of.named;
        told =
            told-ids (numbered (renamed names all)) all (λ id here. (reads-surfaces names all is id here).surface) of.ids of.there changes
            (subst (λ (ns : List ℕ). AreTold ns (numbered (renamed names all)) changes) (sym of.named) told.told);
      }

  pub unless-by : {A : Type 0} (b c : Bool) (top : ℕ) (changes : List (Change A)) → b ≡ c → has_surface top all ≡ true → IsToldUnless b (names top) (renamed names all) changes
      → IsToldUnlessBy c names top all changes
  unless-by true c top changes same there told = subst (λ (d : Bool). IsToldUnlessBy d names top all changes) same told
  unless-by false c top changes same there told = subst (λ (d : Bool). IsToldUnlessBy d names top all changes) same (told-by top changes there told)

  -- ---- links that change

  pub link-still : (number : ℕ) (change : Link → Link) → ((l : Link) → HasEnds all l → HasEnds all (change l)) → IsRenaming names (with_link number change all)
  link-still number change keeps =
      let k = with-link-known (known-there names all is) number change keeps in
      record { apart = is.apart; ends = All-from_recursion (HasEnds all) (with_link number change all).links k.ends }

  -- ---- a surface that is gone

  left-read : (gone id : ℕ) → has_surface gone all ≡ true → has_surface id all ≡ true
      → numbered (without_surface (names gone) (renamed names all)) (names id) ≡ option_map (renamed_surface names) (surface_at id (without_surface gone all))
  left-read gone id was there =
      ap (λ (those : Numbered). those (names id)) (numbered-left (names gone) (renamed names all))
      ∙ (ap₂ (λ (b : Bool) (o : Option Surface). cond b None o) (same-name (known-there names all is) id gone there was) (reads-surfaces names all is id there).surface
      ∙ (at (id == gone) (surface_at id all) ∙ ap (λ (those : Numbered). option_map (renamed_surface names) (those id)) (sym (numbered-left gone all))))
    where
      at : (b : Bool) (o : Option Surface) → cond b None (option_map (renamed_surface names) o) ≡ option_map (renamed_surface names) (cond b None o)
      at true o = refl
      at false o = refl

pub tells-commit : {A : Type 0} (changes : List (Change A)) → TellsCommit changes
tells-commit changes names all id is there told =
    let asked = changes-surface names all is id (asking Commit) (heed-no-names names Commit Subsurface).0 there in
    unless-by names (with_change id (asking Commit) all) asked.still (behaves_synchronised levels (renamed names all) (names id)) (behaves_synchronised levels all id) id changes
    (keeps-places names all is levels id there).mode (still id there)
    (subst (λ (x : Surfaces). IsToldUnless (behaves_synchronised levels (renamed names all) (names id)) (names id) x changes) (sym asked.same) told)
  where
    still : (id : ℕ) → has_surface id all ≡ true → has_surface id (with_change id (asking Commit) all) ≡ true
    still id there = there-changed all id (asking Commit) (λ s. refl) id ∙ there

pub tells-desync : {A : Type 0} (changes : List (Change A)) → TellsDesync changes
tells-desync changes names all number link is e lives told =
    let there = (ends-there names all is number link e lives).0 in
    let still = link-still names all is number (in_mode false) (λ l ends. ends) in
    let same = with-link-renamed names all number (in_mode false) (λ l. refl) in
    unless-by names (with_link number (in_mode false) all) still
    (not (behaves_synchronised levels (renamed names all) (names link.child)) || behaves_synchronised levels (with_link number (in_mode false) (renamed names all)) (names link.child))
    (not (behaves_synchronised levels all link.child) || behaves_synchronised levels (with_link number (in_mode false) all) link.child) link.child changes
    (ap₂ (λ (a b : Bool). not a || b) (keeps-places names all is levels link.child there).mode
    (ap (λ (x : Surfaces). behaves_synchronised levels x (names link.child)) same ∙ (keeps-places names (with_link number (in_mode false) all) still levels link.child there).mode))
    there
    (subst
    (λ (x : Surfaces).
    IsToldUnless (not (behaves_synchronised levels (renamed names all) (names link.child)) || behaves_synchronised levels (with_link number (in_mode false) (renamed names all)) (names link.child))
    (names link.child) x changes) same told)

pub tells-unlink : {A : Type 0} (changes : List (Change A)) → TellsUnlink changes
tells-unlink changes names all number link is e lives told =
    told-by names (with_link number ending all) (link-still names all is number ending (λ l ends lives. absurd (cc))) link.child changes (ends-there names all is number link e lives).0
    (subst (λ (x : Surfaces). IsTold (names link.child) x changes) (with-link-renamed names all number ending (λ l. refl)) told)

pub tells-end : {A : Type 0} (changes : List (Change A)) → TellsEnd changes
tells-end changes names all id is there told =
    let of = named-below names all is id told.numbers there told.those in
    record {
      own = told.own;
      others = told.others;
      gone = subst (λ (b : Bool). AreGoneIf b (names id) told.own) (read-by is_shown_at (λ s n. refl) names all is id there) told.gone;
      ids = of.ids;
      once = once-ids names all is of.ids of.there (subst AreOnce (sym of.named) told.once);
      those = those-ids names all is id told.numbers there told.those of.ids of.there of.named;
      told =
          told-ids names all is (numbered (without_surface (names id) (renamed names all))) (without_surface id all) (λ a here. left-read names all is id a there here) of.ids of.there
          told.others
          (subst (λ (ns : List ℕ). AreTold ns (numbered (without_surface (names id) (renamed names all))) told.others) (sym of.named) told.told);
      together = told.together;
    }
