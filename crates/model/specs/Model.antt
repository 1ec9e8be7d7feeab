-- The reference model: what a store of regions is, and how the pointers into a region are counted. It computes.
-- An object is known by its id, 1, 2, .. in the order made; 0 is null. No count is kept, of pointers or of pages: each is counted when asked for.
-- Assumes nothing.
use Rattle.std.specs.Prelude.{Bool, true, false, not, ◌&&◌, ◌||◌, List, [], ◌∷◌, ℕ, zero, suc, ◌+◌, ◌-◌, eqb, length, get_or, take}
use Rattle.lists.specs.Lists.{bit, pick, any_of, find_or, sum_of, sum_of₂, count_of, every, up_to, times, among}

-- A live region: the region directly above it (0: none), its newest page and the words left there (where it has none there is no room, and this number is not read), and its oldest object (0: none).
pub record Region : Type 0 where
  pub name : ℕ
  pub parent : ℕ
  pub level : ℕ
  pub newest : ℕ
  pub room : ℕ
  pub oldest : ℕ

-- An object: its region, the number of its kind, where it lies (document 02, card 4: its page, and the word of that page that is its header, both from 0) and its words.
-- A word holds data or an id, by its mark.
pub record Object : Type 0 where
  pub home : ℕ
  pub kind : ℕ
  pub page : ℕ
  pub word : ℕ
  pub words : List ℕ

-- For each page the name of the region that holds it (0: it is free); the marks of each kind; the live regions; the frames, lowest first; how many of these are counted, document 01's m;
-- the last name given; and all objects ever made, oldest first. Those of deleted regions stay in the list, dead, so that no id is used again; their pages and words may be.
pub record Model : Type 0 where
  pub holders : List ℕ
  pub kinds : List (List ℕ)
  pub regions : List Region
  pub frames : List (List ℕ)
  pub counted : ℕ
  pub given : ℕ
  pub objects : List Object

-- The calls of document 02's cards that only ask, and change nothing: locate (card 4).
pub data Query : Type 0 where
  locate : ℕ → Query

-- The calls numbered 2 to 23, in that order, each with its arguments in document 01's order; then, numbered from 24 on, those of document 02's cards: delete_all (card 2), and those that only ask.
-- The last number of drop_frame, hand_back, set_pointer, delete and delete_all is the filler that the call acts for (document 02, card 5).
pub data Call : Type 0 where
  declare : List ℕ → Call
  new_region : Call
  subregion : ℕ → Call
  push : ℕ → Call
  drop_frame : ℕ → Call
  hand_back : ℕ → ℕ → ℕ → Call
  allocate : ℕ → ℕ → ℕ → Call
  first : ℕ → ℕ → Call
  copy : ℕ → ℕ → Call
  fetch : ℕ → ℕ → Call
  clear : ℕ → Call
  load : ℕ → ℕ → ℕ → Call
  set_pointer : ℕ → ℕ → ℕ → ℕ → Call
  put : ℕ → ℕ → ℕ → Call
  get : ℕ → ℕ → Call
  view : ℕ → Call
  same : ℕ → ℕ → Call
  about : ℕ → Call
  report : ℕ → Call
  totals : Call
  audit : Call
  delete : ℕ → ℕ → Call
  delete_all : List ℕ → ℕ → Call
  ask : Query → Call

-- What a call answers: the number of its refusal, 0 if accepted; four values, 0 where there is none; and the words that view hands back.
pub record Answer : Type 0 where
  pub refusal : ℕ
  pub values : List ℕ
  pub part : List ℕ

abbrev pub four : List ℕ → List ℕ
four v = get_or v 0 0 ∷ get_or v 1 0 ∷ get_or v 2 0 ∷ get_or v 3 0 ∷ []

abbrev pub gives : List ℕ → Answer
gives v = record { refusal = 0; values = four v; part = [] }

abbrev pub refused_by : ℕ → Answer
refused_by n = record { refusal = n; values = four []; part = [] }

-- ---- Lookups. What is not there reads as nothing: no live region has the name 0, and null leads to no object, whose page reads as 256, past all pages (document 02, card 4)

abbrev pub no_region : Region
no_region = record { name = 0; parent = 0; level = 0; newest = 0; room = 0; oldest = 0 }

abbrev pub no_object : Object
no_object = record { home = 0; kind = 0; page = 256; word = 0; words = [] }

-- region g has the name r
abbrev pub called : ℕ → Region → Bool
called r g = eqb g.name r

-- whether a region of the list has the name r, that region, and the name of the region above it
abbrev pub live : List Region → ℕ → Bool
live gs r = any_of (called r) gs

abbrev pub region : List Region → ℕ → Region
region gs r = find_or (called r) no_region gs

abbrev pub parent_of : List Region → ℕ → ℕ
parent_of gs r = (region gs r).parent

-- the object that pointer p leads to, its region, and the marks of kind k
abbrev pub object : List Object → ℕ → Object
object os p = get_or (no_object ∷ os) p no_object

abbrev pub home_of : List Object → ℕ → ℕ
home_of os p = (object os p).home

abbrev pub marks : List (List ℕ) → ℕ → List ℕ
marks ks k = get_or ([] ∷ ks) k []

-- the same of a whole model: the regions that live, the region a pointer leads into, and the region above one
abbrev pub lives_in : Model → ℕ → Bool
lives_in L = live L.regions

abbrev pub home_in : Model → ℕ → ℕ
home_in L = home_of L.objects

abbrev pub parent_in : Model → ℕ → ℕ
parent_in L = parent_of L.regions

-- how many pages region r holds; of 0, which is no region's name, how many are free (document 01, Report and Totals)
abbrev pub held_by : Model → ℕ → ℕ
held_by L r = times r L.holders

-- the lowest free page, by the holders of all pages; the number of pages where none is free (document 02, card 4)
unfoldable pub lowest_free : List ℕ → ℕ
lowest_free holders = find_or (λ j. eqb (get_or holders j 0) 0) (length holders) (up_to (length holders))

-- the place of the top frame, which is also the number of frames that stand without it
abbrev pub top_place : List (List ℕ) → ℕ
top_place fs = length fs - 1

-- the top frame, and the one beneath it
abbrev pub top : Model → List ℕ
top L = get_or L.frames (top_place L.frames) []

abbrev pub beneath : Model → List ℕ
beneath L = get_or L.frames (length L.frames - 2) []

-- slot s of the top frame, the object it leads to, that object's marks, and the mark of its word w
abbrev pub slot : Model → ℕ → ℕ
slot L s = get_or (top L) s 0

abbrev pub in_slot : Model → ℕ → Object
in_slot L s = object L.objects (slot L s)

abbrev pub slot_marks : Model → ℕ → List ℕ
slot_marks L s = marks L.kinds (in_slot L s).kind

abbrev pub mark_at : Model → ℕ → ℕ → ℕ
mark_at L s w = get_or (slot_marks L s) w 0

-- ---- Outside pointers of region r (document 01, The store). `lives` tells the live regions, `home` the region that a pointer leads into

-- 1 for a pointer into r
abbrev pub into : (ℕ → ℕ) → ℕ → ℕ → ℕ
into home r p = bit (eqb (home p) r)

-- how many slots of the frames fs lead into r
unfoldable pub in_frames : (ℕ → ℕ) → ℕ → List (List ℕ) → ℕ
in_frames home r fs = sum_of (sum_of (into home r)) fs

-- a word p with mark k: only words marked 1 are counted
abbrev pub free_into : (ℕ → ℕ) → ℕ → ℕ → ℕ → ℕ
free_into home r k p = pick (eqb k 1) (into home r p) 0

-- how many words of object o lead into r: none if it is dead or of region r itself
unfoldable pub from_object : (ℕ → Bool) → (ℕ → ℕ) → List (List ℕ) → ℕ → Object → ℕ
from_object lives home ks r o = pick (lives o.home && not (eqb o.home r)) (sum_of₂ (free_into home r) (marks ks o.kind) o.words) 0

-- how many words of the objects os lead into r, and how many of all the objects of a model
unfoldable pub in_words : (ℕ → Bool) → (ℕ → ℕ) → List (List ℕ) → List Object → ℕ → ℕ
in_words lives home ks os r = sum_of (from_object lives home ks r) os

abbrev pub word_pointers : Model → ℕ → ℕ
word_pointers L r = in_words (lives_in L) (home_in L) L.kinds L.objects r

-- all outside pointers: in words and in every frame
unfoldable pub outside : Model → ℕ → ℕ
outside L r = word_pointers L r + in_frames (home_in L) r L.frames

-- the stored count: in words and in the counted frames
unfoldable pub stored : Model → ℕ → ℕ
stored L r = word_pointers L r + in_frames (home_in L) r (take L.counted L.frames)

-- the live regions directly below r
abbrev pub subregions : Model → ℕ → ℕ
subregions L r = count_of (λ g. eqb g.parent r) L.regions

-- ---- Regions that are to go together, those that rs names (document 02, card 2)

-- each live region right below one of them is one of them
unfoldable pub closed : List Region → List ℕ → Bool
closed gs rs = every (λ g. not (among g.parent rs) || among g.name rs) gs

-- the outside pointers of r that are no words of their objects: slots of every frame, and words marked 1 of objects of regions that rs does not name
unfoldable pub outside_but : Model → List ℕ → ℕ → ℕ
outside_but L rs r =
    sum_of (λ o. pick (among o.home rs) 0 (from_object (lives_in L) (home_in L) L.kinds r o)) L.objects + in_frames (home_in L) r L.frames

-- ---- Marks (document 01, The store; mark 3 as document 02, card 1, widens it)

-- the regions met on the way up from region r: the one above it, then the one above that, until none is above; n of them at most
unfoldable pub climb : (ℕ → ℕ) → ℕ → ℕ → List ℕ
climb parent zero r = []
climb parent (suc n) r = pick (eqb (parent r) 0) [] (parent r ∷ climb parent n (parent r))

-- all regions above r, where regions form a tree: the deepest level is 16, so that no climb is longer (document 02, card 1). Where they stand in a ring, the first 16 met
abbrev pub above : (ℕ → ℕ) → ℕ → List ℕ
above parent r = climb parent 16 r

-- May a word of an object of region h, with the regions us above it, lead into region t? By mark: 0 data, 1 free, 2 same, 3 up, 4 forever
abbrev pub rule : ℕ → ℕ → ℕ → List ℕ → Bool
rule k t h us = get_or (false ∷ true ∷ eqb t h ∷ (eqb t h || among t us) ∷ eqb t 1 ∷ []) k false

-- a word marked k of an object of region h may hold pointer p
unfoldable pub allowed : (ℕ → ℕ) → (ℕ → ℕ) → ℕ → ℕ → ℕ → Bool
allowed parent home h k p = eqb p 0 || rule k (home p) h (above parent h)
