mod Arguments
mod TextAndNumber
mod TopicLists
mod Hosts
mod ExampleLines
