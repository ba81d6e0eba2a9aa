-- Two outcomes that an exported function's contract allows for one input are equal, what is answered and all that is lent: of the
-- contracts as the source states them. So are an outcome of the search and one of the search by jumps.
use mathlib.Core.Path.{◌≡◌, ◌∙◌, sym}
use contract.Lifetimes.{Lfts}
use borrow.Fn.Kinds.{Dens, res_t, ended_of}
use denote.Triple.Clauses.{AtExit}
use Rattle.monterculo.proofs.monterculo_count.Kinds as count-kinds
use Rattle.monterculo.proofs.monterculo_count.Reads as count-reads
use Rattle.monterculo.proofs.monterculo_choose.Kinds as choose-kinds
use Rattle.monterculo.proofs.monterculo_choose.Reads as choose-reads
use Rattle.monterculo.proofs.monterculo_codeword_of.Kinds as codeword-of-kinds
use Rattle.monterculo.proofs.monterculo_codeword_of.Reads as codeword-of-reads
use Rattle.monterculo.proofs.monterculo_character_of.Kinds as character-of-kinds
use Rattle.monterculo.proofs.monterculo_character_of.Reads as character-of-reads
use Rattle.monterculo.proofs.monterculo_check.Kinds as check-kinds
use Rattle.monterculo.proofs.monterculo_check.Reads as check-reads
use Rattle.monterculo.proofs.monterculo_unpack.Kinds as unpack-kinds
use Rattle.monterculo.proofs.monterculo_unpack.Reads as unpack-reads
use Rattle.monterculo.proofs.monterculo_pack.Kinds as pack-kinds
use Rattle.monterculo.proofs.monterculo_pack.Reads as pack-reads
use Rattle.monterculo.proofs.monterculo_make_directory.Kinds as make-directory-kinds
use Rattle.monterculo.proofs.monterculo_make_directory.Reads as make-directory-reads
use Rattle.monterculo.proofs.monterculo_read_one.Kinds as read-one-kinds
use Rattle.monterculo.proofs.monterculo_read_one.Reads as read-one-reads
use Rattle.monterculo.proofs.monterculo_search.Kinds as search-kinds
use Rattle.monterculo.proofs.monterculo_search.Reads as search-reads
use Rattle.monterculo.proofs.monterculo_search_jumping.Kinds as search-jumping-kinds
use Rattle.monterculo.proofs.monterculo_search_jumping.Reads as search-jumping-reads
use Rattle.monterculo.proofs.monterculo_edit.Kinds as edit-kinds
use Rattle.monterculo.proofs.monterculo_edit.Reads as edit-reads
use Rattle.monterculo.proofs.monterculo_write_frames.Kinds as write-frames-kinds
use Rattle.monterculo.proofs.monterculo_write_frames.Reads as write-frames-reads
use Rattle.monterculo.proofs.monterculo_read_frames.Kinds as read-frames-kinds
use Rattle.monterculo.proofs.monterculo_read_frames.Reads as read-frames-reads
use Rattle.monterculo.proofs.monterculo_read_first.Kinds as read-first-kinds
use Rattle.monterculo.proofs.monterculo_read_first.Reads as read-first-reads
use Rattle.monterculo.proofs.monterculo_read_frame.Kinds as read-frame-kinds
use Rattle.monterculo.proofs.monterculo_read_frame.Reads as read-frame-reads
use Rattle.monterculo.proofs.monterculo_start.Kinds as start-kinds
use Rattle.monterculo.proofs.monterculo_start.Reads as start-reads
use Rattle.monterculo.proofs.monterculo_feed.Kinds as feed-kinds
use Rattle.monterculo.proofs.monterculo_feed.Reads as feed-reads
use Rattle.monterculo.proofs.monterculo_finish.Kinds as finish-kinds
use Rattle.monterculo.proofs.monterculo_finish.Reads as finish-reads

-- lent: `counts`
pub count_tight : (κs : Lfts 2) (a : Dens κs count-kinds.ps) (r₁ r₂ : (res_t count-kinds.r κs).Denot) (s₁ s₂ : AtExit (ended_of 2 count-kinds.ps count-kinds.r) κs)
    → count-reads.Learnt κs a r₁ s₁ → count-reads.Learnt κs a r₂ s₂
    → (r₁ ≡ r₂) × (s₁.1.0.now ≡ s₂.1.0.now)
count_tight κs a r₁ r₂ s₁ s₂ p q = (p.0 ∙ sym q.0, p.1 ∙ sym q.1)

pub choose_tight : (κs : Lfts 1) (a : Dens κs choose-kinds.ps) (r₁ r₂ : (res_t choose-kinds.r κs).Denot) (s₁ s₂ : AtExit (ended_of 1 choose-kinds.ps choose-kinds.r) κs)
    → choose-reads.Learnt κs a r₁ s₁ → choose-reads.Learnt κs a r₂ s₂
    → (r₁.answer ≡ r₂.answer) × (r₁.table ≡ r₂.table)
choose_tight κs a r₁ r₂ s₁ s₂ p q = (p.0 ∙ sym q.0, p.1 ∙ sym q.1)

pub codeword_of_tight : (κs : Lfts 0) (a : Dens κs codeword-of-kinds.ps) (r₁ r₂ : (res_t codeword-of-kinds.r κs).Denot) (s₁ s₂ : AtExit (ended_of 0 codeword-of-kinds.ps codeword-of-kinds.r) κs)
    → codeword-of-reads.Learnt κs a r₁ s₁ → codeword-of-reads.Learnt κs a r₂ s₂
    → (r₁.answer ≡ r₂.answer) × (r₁.word ≡ r₂.word)
codeword_of_tight κs a r₁ r₂ s₁ s₂ p q = (p.0 ∙ sym q.0, p.1 ∙ sym q.1)

pub character_of_tight : (κs : Lfts 0) (a : Dens κs character-of-kinds.ps) (r₁ r₂ : (res_t character-of-kinds.r κs).Denot) (s₁ s₂ : AtExit (ended_of 0 character-of-kinds.ps character-of-kinds.r) κs)
    → character-of-reads.Learnt κs a r₁ s₁ → character-of-reads.Learnt κs a r₂ s₂
    → (r₁ ≡ r₂)
character_of_tight κs a r₁ r₂ s₁ s₂ p q = p ∙ sym q

-- lent: `buf`
pub pack_tight : (κs : Lfts 2) (a : Dens κs pack-kinds.ps) (r₁ r₂ : (res_t pack-kinds.r κs).Denot) (s₁ s₂ : AtExit (ended_of 2 pack-kinds.ps pack-kinds.r) κs)
    → pack-reads.Learnt κs a r₁ s₁ → pack-reads.Learnt κs a r₂ s₂
    → (r₁.answer ≡ r₂.answer) × (r₁.roll ≡ r₂.roll) × (s₁.1.1.0.now ≡ s₂.1.1.0.now)
pack_tight κs a r₁ r₂ s₁ s₂ p q = (p.0 ∙ sym q.0, p.1.0 ∙ sym q.1.0, p.1.1 ∙ sym q.1.1)

pub check_tight : (κs : Lfts 1) (a : Dens κs check-kinds.ps) (r₁ r₂ : (res_t check-kinds.r κs).Denot) (s₁ s₂ : AtExit (ended_of 1 check-kinds.ps check-kinds.r) κs)
    → check-reads.Learnt κs a r₁ s₁ → check-reads.Learnt κs a r₂ s₂
    → (r₁ ≡ r₂)
check_tight κs a r₁ r₂ s₁ s₂ p q = p ∙ sym q

-- lent: `out`
pub unpack_tight : (κs : Lfts 2) (a : Dens κs unpack-kinds.ps) (r₁ r₂ : (res_t unpack-kinds.r κs).Denot) (s₁ s₂ : AtExit (ended_of 2 unpack-kinds.ps unpack-kinds.r) κs)
    → unpack-reads.Learnt κs a r₁ s₁ → unpack-reads.Learnt κs a r₂ s₂
    → (r₁ ≡ r₂) × (s₁.1.1.1.1.0.now ≡ s₂.1.1.1.1.0.now)
unpack_tight κs a r₁ r₂ s₁ s₂ p q = (p.0 ∙ sym q.0, p.1 ∙ sym q.1)

-- lent: `dir`
pub make_directory_tight : (κs : Lfts 2) (a : Dens κs make-directory-kinds.ps) (r₁ r₂ : (res_t make-directory-kinds.r κs).Denot) (s₁ s₂ : AtExit (ended_of 2 make-directory-kinds.ps make-directory-kinds.r) κs)
    → make-directory-reads.Learnt κs a r₁ s₁ → make-directory-reads.Learnt κs a r₂ s₂
    → (r₁ ≡ r₂) × (s₁.1.1.0.now ≡ s₂.1.1.0.now)
make_directory_tight κs a r₁ r₂ s₁ s₂ p q = (p.0 ∙ sym q.0, p.1 ∙ sym q.1)

pub read_one_tight : (κs : Lfts 2) (a : Dens κs read-one-kinds.ps) (r₁ r₂ : (res_t read-one-kinds.r κs).Denot) (s₁ s₂ : AtExit (ended_of 2 read-one-kinds.ps read-one-kinds.r) κs)
    → read-one-reads.Learnt κs a r₁ s₁ → read-one-reads.Learnt κs a r₂ s₂
    → (r₁ ≡ r₂)
read_one_tight κs a r₁ r₂ s₁ s₂ p q = p ∙ sym q

-- lent: `slice`
pub search_tight : (κs : Lfts 3) (a : Dens κs search-kinds.ps) (r₁ r₂ : (res_t search-kinds.r κs).Denot) (s₁ s₂ : AtExit (ended_of 3 search-kinds.ps search-kinds.r) κs)
    → search-reads.Learnt κs a r₁ s₁ → search-reads.Learnt κs a r₂ s₂
    → (r₁ ≡ r₂) × (s₁.1.1.1.0.now ≡ s₂.1.1.1.0.now)
search_tight κs a r₁ r₂ s₁ s₂ p q = (p.0 ∙ sym q.0, p.1 ∙ sym q.1)

-- lent: `slice`
pub search_jumping_tight : (κs : Lfts 3) (a : Dens κs search-jumping-kinds.ps) (r₁ r₂ : (res_t search-jumping-kinds.r κs).Denot) (s₁ s₂ : AtExit (ended_of 3 search-jumping-kinds.ps search-jumping-kinds.r) κs)
    → search-jumping-reads.Learnt κs a r₁ s₁ → search-jumping-reads.Learnt κs a r₂ s₂
    → (r₁ ≡ r₂) × (s₁.1.1.1.0.now ≡ s₂.1.1.1.0.now)
search_jumping_tight κs a r₁ r₂ s₁ s₂ p q = (p.0 ∙ sym q.0, p.1 ∙ sym q.1)

-- and one outcome of each of the two searches
pub jumping_agrees : (κs : Lfts 3) (a : Dens κs search-kinds.ps) (r₁ : (res_t search-kinds.r κs).Denot) (r₂ : (res_t search-jumping-kinds.r κs).Denot)
    (s₁ : AtExit (ended_of 3 search-kinds.ps search-kinds.r) κs) (s₂ : AtExit (ended_of 3 search-jumping-kinds.ps search-jumping-kinds.r) κs)
    → search-reads.Learnt κs a r₁ s₁ → search-jumping-reads.Learnt κs a r₂ s₂
    → (r₁ ≡ r₂) × (s₁.1.1.1.0.now ≡ s₂.1.1.1.0.now)
jumping_agrees κs a r₁ r₂ s₁ s₂ p q = (p.0 ∙ sym q.0, p.1 ∙ sym q.1)

-- lent: `buf`, `dir`
pub edit_tight : (κs : Lfts 3) (a : Dens κs edit-kinds.ps) (r₁ r₂ : (res_t edit-kinds.r κs).Denot) (s₁ s₂ : AtExit (ended_of 3 edit-kinds.ps edit-kinds.r) κs)
    → edit-reads.Learnt κs a r₁ s₁ → edit-reads.Learnt κs a r₂ s₂
    → (r₁.answer ≡ r₂.answer) × (r₁.roll ≡ r₂.roll) × (s₁.1.0.now ≡ s₂.1.0.now) × (s₁.1.1.0.now ≡ s₂.1.1.0.now)
edit_tight κs a r₁ r₂ s₁ s₂ p q = (p.0 ∙ sym q.0, p.1.0 ∙ sym q.1.0, p.1.1.0 ∙ sym q.1.1.0, p.1.1.1 ∙ sym q.1.1.1)

-- lent: `out`
pub write_frames_tight : (κs : Lfts 2) (a : Dens κs write-frames-kinds.ps) (r₁ r₂ : (res_t write-frames-kinds.r κs).Denot)
    (s₁ s₂ : AtExit (ended_of 2 write-frames-kinds.ps write-frames-kinds.r) κs)
    → write-frames-reads.Learnt κs a r₁ s₁ → write-frames-reads.Learnt κs a r₂ s₂
    → (r₁ ≡ r₂) × (s₁.1.1.0.now ≡ s₂.1.1.0.now)
write_frames_tight κs a r₁ r₂ s₁ s₂ p q = (p.0 ∙ sym q.0, p.1 ∙ sym q.1)

-- lent: `buf`
pub read_frames_tight : (κs : Lfts 2) (a : Dens κs read-frames-kinds.ps) (r₁ r₂ : (res_t read-frames-kinds.r κs).Denot)
    (s₁ s₂ : AtExit (ended_of 2 read-frames-kinds.ps read-frames-kinds.r) κs)
    → read-frames-reads.Learnt κs a r₁ s₁ → read-frames-reads.Learnt κs a r₂ s₂
    → (r₁.answer ≡ r₂.answer) × (r₁.roll ≡ r₂.roll) × (s₁.1.0.now ≡ s₂.1.0.now)
read_frames_tight κs a r₁ r₂ s₁ s₂ p q = (p.0 ∙ sym q.0, p.1.0 ∙ sym q.1.0, p.1.1 ∙ sym q.1.1)

pub read_first_tight : (κs : Lfts 1) (a : Dens κs read-first-kinds.ps) (r₁ r₂ : (res_t read-first-kinds.r κs).Denot)
    (s₁ s₂ : AtExit (ended_of 1 read-first-kinds.ps read-first-kinds.r) κs)
    → read-first-reads.Learnt κs a r₁ s₁ → read-first-reads.Learnt κs a r₂ s₂
    → (r₁.answer ≡ r₂.answer) × (r₁.roll ≡ r₂.roll)
read_first_tight κs a r₁ r₂ s₁ s₂ p q = (p.0 ∙ sym q.0, p.1 ∙ sym q.1)

-- lent: `out`
pub read_frame_tight : (κs : Lfts 2) (a : Dens κs read-frame-kinds.ps) (r₁ r₂ : (res_t read-frame-kinds.r κs).Denot)
    (s₁ s₂ : AtExit (ended_of 2 read-frame-kinds.ps read-frame-kinds.r) κs)
    → read-frame-reads.Learnt κs a r₁ s₁ → read-frame-reads.Learnt κs a r₂ s₂
    → (r₁ ≡ r₂) × (s₁.1.0.now ≡ s₂.1.0.now)
read_frame_tight κs a r₁ r₂ s₁ s₂ p q = (p.0 ∙ sym q.0, p.1 ∙ sym q.1)

pub start_tight : (κs : Lfts 1) (a : Dens κs start-kinds.ps) (r₁ r₂ : (res_t start-kinds.r κs).Denot) (s₁ s₂ : AtExit (ended_of 1 start-kinds.ps start-kinds.r) κs)
    → start-reads.Learnt κs a r₁ s₁ → start-reads.Learnt κs a r₂ s₂
    → (r₁.answer ≡ r₂.answer) × (r₁.searcher ≡ r₂.searcher)
start_tight κs a r₁ r₂ s₁ s₂ p q = (p.0 ∙ sym q.0, p.1 ∙ sym q.1)

-- lent: `slice`
pub feed_tight : (κs : Lfts 2) (a : Dens κs feed-kinds.ps) (r₁ r₂ : (res_t feed-kinds.r κs).Denot) (s₁ s₂ : AtExit (ended_of 2 feed-kinds.ps feed-kinds.r) κs)
    → feed-reads.Learnt κs a r₁ s₁ → feed-reads.Learnt κs a r₂ s₂
    → (r₁.answer ≡ r₂.answer) × (r₁.hits ≡ r₂.hits) × (r₁.searcher ≡ r₂.searcher) × (s₁.1.1.0.now ≡ s₂.1.1.0.now)
feed_tight κs a r₁ r₂ s₁ s₂ p q = (p.0 ∙ sym q.0, p.1.0 ∙ sym q.1.0, p.1.1.0 ∙ sym q.1.1.0, p.1.1.1 ∙ sym q.1.1.1)

pub finish_tight : (κs : Lfts 0) (a : Dens κs finish-kinds.ps) (r₁ r₂ : (res_t finish-kinds.r κs).Denot) (s₁ s₂ : AtExit (ended_of 0 finish-kinds.ps finish-kinds.r) κs)
    → finish-reads.Learnt κs a r₁ s₁ → finish-reads.Learnt κs a r₂ s₂
    → (r₁ ≡ r₂)
finish_tight κs a r₁ r₂ s₁ s₂ p q = p ∙ sym q
