pub mod TurnFacts
pub mod LayFacts
pub mod ChildFacts
pub mod LoadFacts
pub mod TreeFacts
pub mod SyntaxFacts
pub mod LeafFacts
mod NumberFacts
mod IterFacts
pub mod OneFacts
pub mod DescentFacts
pub mod RepeatFacts
pub mod ConditionFacts
pub mod CountFacts
mod TokenFacts
mod TriviaFacts
mod EmptyFacts
pub mod EachFacts
pub mod FrontFacts
pub mod BelowFacts
pub mod StepFacts
pub mod WalkFacts
mod WantedFacts
mod MemoFacts
pub mod InnerFacts
mod RunFacts
mod CompactFacts
mod FillFacts
pub mod DialectFacts
