-- A history that tells of the pages of a store: which are free, and who holds each. What a memory lists at the start tells of its own.
-- Assumes nothing.
use Rattle.std.specs.Prelude.{◌≡◌, refl, ◌⊎◌, ◌≢◌, Bool, true, false, not, ◌&&◌, List, [], ◌∷◌, map, ℕ, zero, suc, ◌+◌, ◌≤◌, ◌<◌, eqb, length, get_or}
use Rattle.std.proofs.Common.{sym, ap, ◌∙◌, inl, inr, add-one, arith, eq-eqb, ne_eqb, lt-ltb}
use Rattle.lists.specs.Lists.{bit, pick, every, keep, from, up_to, times}
use Rattle.lists.specs.Laws.Tests.{by_same, pick_same, bit_pick}
use Rattle.lists.specs.Laws.Sums.{sum_nothing}
use Rattle.lists.specs.Laws.Finds.{times_keep}
use Rattle.lists.specs.Laws.UpTo.{sum_below, each_every}
use Rattle.lists.specs.Laws.Kept.{sum_single}
use Rattle.model.specs.Model.{Model, lives_in}
use Rattle.regions.specs.declared.Regions.{Regions}
use Rattle.regions.specs.Regions.{name_at, name_of, tag_of}
use Rattle.regions.specs.Laws.Entries.{name_none}
use Rattle.pages.specs.declared.Pages.{Pages}
use Rattle.pages.specs.Pages.{page_count, owner_at, is_free}
use Rattle.outcomes.specs.Store.{Store, regions, pages}
use Rattle.outcomes.specs.History.{History, Holding, is_live, holders, pages_held, begin, listed_held, listed_free}
use Rattle.refinement.specs.Represents.{RegionsAgree, PagesAgree, Owned}
use Rattle.refinement.specs.Laws.Tags.{entry_name, live_named, tag_name, tag_some}
use Rattle.refinement.specs.Laws.Reads.{page_count_lem}
use Rattle.histories.specs.Laws.Tells.{Tells, live_is}

-- who holds a page whose owner has tag t
abbrev pub holding : List ℕ → ℕ → List ℕ
holding names zero = []
holding names (suc i) = get_or names i 0 ∷ []

-- a history that tells of the pages p, whose owners are entries of `names`
pub record TellsPages (h : History) (names : List ℕ) (p : Pages) : Type 0 where
  pub pages : h.pages ≡ p.made
  pub free : (j : ℕ) → j < p.made → times j h.free ≡ bit (eqb (owner_at p j) 0)
  pub held : (j : ℕ) → j < p.made → holders h j ≡ holding names (owner_at p j)
  -- and of no page that was not made
  pub none : (j : ℕ) → p.made ≤ j → (times j h.free ≡ 0) × (holders h j ≡ [])

pub holding_tag : {L : Model} {sp : List ℕ} {g : Regions} → RegionsAgree L sp g → (r : ℕ) → lives_in L r ≡ true → holding g.names (tag_of g r) ≡ r ∷ []
unfolding tag_of name_at
holding_tag {L} {sp} {g} a r l = ap (holding g.names) (add-one _) ∙ ap (λ n. n ∷ []) (entry_name a r l)

-- who holds page j, as `holders` reads a list
abbrev pub held_by : ℕ → List Holding → List ℕ
held_by j l = map (λ t. t.region) (keep (λ t. eqb t.page j) l)

-- the holdings of the regions that pass, and those of the holders that do
pub held_kept : (j : ℕ) (f : ℕ → Bool) (l : List Holding) → held_by j (keep (λ t. f t.region) l) ≡ keep f (held_by j l)
held_kept j f [] = refl
held_kept j f (x ∷ xs) = go (f x.region) refl (eqb x.page j) refl (held_kept j f xs)
  where
    go : (a : Bool) → f x.region ≡ a → (b : Bool) → eqb x.page j ≡ b → held_by j (keep (λ t. f t.region) xs) ≡ keep f (held_by j xs)
        → held_by j (pick a (x ∷ keep (λ t. f t.region) xs) (keep (λ t. f t.region) xs)) ≡ keep f (map (λ t. t.region) (pick b (x ∷ keep (λ t. eqb t.page j) xs) (keep (λ t. eqb t.page j) xs)))
    go true p true q e = rw (q, p) (ap (λ l. x.region ∷ l) e)
    go true p false q e = rw q e
    go false p true q e = rw p e
    go false p false q e = e

-- each number below n stands once in the list of them, and no other
times_up_to : (n j : ℕ) → j < n → times j (up_to n) ≡ 1
times_up_to n j l = sum_single (λ x. bit (eqb x j)) n j l (λ i d. rw (ne_eqb i j d)) ∙ rw (eq-eqb j j refl)

times_past : (n j : ℕ) → n ≤ j → times j (up_to n) ≡ 0
times_past n j l = sum_below (λ x. bit (eqb x j)) (λ x. 0) n (λ i k. rw (ne_eqb i j (λ e. omega arith))) ∙ sum_nothing (λ x. 0) (λ x. refl) (up_to n)

-- pages k, k + 1, .. each with its holder
module _ (f : ℕ → ℕ) where
  abbrev entered : ℕ → Holding
  entered j = record { page = j; region = f j }

  held_none : (k n j : ℕ) → ((i : ℕ) → k ≤ i → i < k + n → i ≢ j) → held_by j (map entered (from k n)) ≡ []
  held_none k zero j d = refl
  held_none k (suc n) j d = rw (ne_eqb k j (d k (omega arith) (omega arith))) (held_none (suc k) n j (λ i a b. d i (omega arith) (omega arith)))

  held_one : (k n j : ℕ) → k ≤ j → j < k + n → held_by j (map entered (from k n)) ≡ f j ∷ []
  held_one k zero j a b = absurd (omega arith)
  held_one k (suc n) j a b = go (by_same k j) (held_one (suc k) n j)
    where
      go : (k ≡ j) ⊎ (k ≢ j) → (suc k ≤ j → j < suc k + n → held_by j (map entered (from (suc k) n)) ≡ f j ∷ []) → held_by j (map entered (from k (suc n))) ≡ f j ∷ []
      go (inl e) ih = rw (eq-eqb k j e, e) (ap (λ l. f j ∷ l) (held_none (suc j) n j (λ i a b e. omega arith)))
      go (inr d) ih = rw (ne_eqb k j d) (ih (omega arith) (omega arith))

pub begin_pages : {L : Model} {sp : List ℕ} {words : ℕ} (S : Store) → RegionsAgree L sp (regions S) → PagesAgree L (regions S) (pages S) words → TellsPages (begin S) (regions S).names (pages S)
unfolding begin listed_free listed_held is_free
begin_pages {L} S ra pa = record {
  pages = page_count_lem pa;
  free = λ j l.
      let b : j < page_count (pages S) = omega (arith, page_count_lem pa) in
      times_keep j (is_free (pages S)) (up_to n) ∙ rw (lt-ltb j n b, times_up_to n j b) (sym (bit_pick (eqb (owner_at (pages S) j) 0)));
  held = λ j l. held_kept j (λ q. not (eqb q 0)) (map (entered holder) (up_to n)) ∙ rw (held_one holder 0 n j (omega arith) (omega (arith, page_count_lem pa))) (go j (pa.owned j l));
  none = λ j l.
      let b : n ≤ j = omega (arith, page_count_lem pa) in (
        times_keep j (is_free (pages S)) (up_to n) ∙ rw (times_past n j b) (pick_same {A = ℕ} (is_free (pages S) j) 0),
        held_kept j (λ q. not (eqb q 0)) (map (entered holder) (up_to n)) ∙ rw (held_none holder 0 n j (λ i x y e. omega arith)),
      );
}
  where
    n : ℕ
    n = page_count (pages S)

    holder : ℕ → ℕ
    holder j = name_of (regions S) (owner_at (pages S) j)

    go : (j : ℕ) → Owned L (regions S) (pages S) j
        → keep (λ q. not (eqb q 0)) (name_of (regions S) (owner_at (pages S) j) ∷ []) ≡ holding (regions S).names (owner_at (pages S) j)
    go j (inl (z, e)) = rw (e, name_none (regions S))
    go j (inr (l, e)) = let r = get_or L.holders j 0 in rw (e, tag_name ra r l, ne_eqb r 0 (live_named ra r l), holding_tag ra r l)

-- each page is free, or one live region holds it
pub pages_held_lem : {L : Model} {sp : List ℕ} {h : History} {g : Regions} {p : Pages} {words : ℕ} → RegionsAgree L sp g → PagesAgree L g p words → Tells L sp h → TellsPages h g.names p → pages_held h ≡ true
unfolding pages_held
pages_held_lem {L} {sp} {h} {g} {p} ra pa t u = each_every _ h.pages (λ j k. let l : j < p.made = omega (arith, u.pages) in rw (u.free j l, u.held j l) (go j (pa.owned j l)))
  where
    go : (j : ℕ) → Owned L g p j
        → (eqb (bit (eqb (owner_at p j) 0) + length (holding g.names (owner_at p j))) 1 && every (is_live h) (holding g.names (owner_at p j))) ≡ true
    go j (inl (z, e)) = rw e
    go j (inr (l, e)) = let r = get_or L.holders j 0 in rw (e, ne_eqb (tag_of g r) 0 (tag_some g r), holding_tag ra r l, live_is t r, l)
